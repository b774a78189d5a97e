-- What the figures of a task tell of its curve.
use Rattle.std.specs.Prelude.{ℕ, ◌≤◌, ◌<◌, ◌≡◌, List, length, get_or}
use Rattle.model.specs.Limits.{longest_period, largest_volume}
use Rattle.model.specs.Curve.{Curve}
use Rattle.model.specs.Lawful.{Limited}
use Rattle.curve.specs.declared.chart.Figures.{Figures}
use Rattle.curve.specs.Charts.{no_curve}

-- the curve of figures alone, of whose work nothing is told
abbrev pub outline : Figures → Curve
outline f = record { deadline = f.deadline.0; period = f.period.0; length = f.length.0; volume = f.volume.0; remains = λ q x. 0 }

-- they are those of a curve
pub record Tells (f : Figures) (c : Curve) : Type 0 where
  pub deadline : f.deadline.0 ≡ c.deadline
  pub period : f.period.0 ≡ c.period
  pub length : f.length.0 ≡ c.length
  pub volume : f.volume.0 ≡ c.volume

-- the figures of a readable task: 1 <= deadline <= period, and their limits
pub record InRange (c : Curve) : Type 0 where
  pub some : 1 ≤ c.deadline
  pub constrained : c.deadline ≤ c.period
  pub period : c.period ≤ longest_period
  pub length : c.length ≤ largest_volume
  pub volume : c.volume ≤ largest_volume

abbrev pub AllInRange : List Curve → Type 0
AllInRange cs = (i : ℕ) → i < length cs → InRange (get_or cs i no_curve)

-- the curve of a readable task with the figures of another
pub record Fills (c told : Curve) : Type 0 where
  pub limited : Limited c
  pub deadline : c.deadline ≡ told.deadline
  pub period : c.period ≡ told.period
  pub length : c.length ≡ told.length
  pub volume : c.volume ≡ told.volume

-- the same of each of a list
pub record AllFill (cs told : List Curve) : Type 0 where
  pub even : length cs ≡ length told
  pub each : (i : ℕ) → i < length cs → Fills (get_or cs i no_curve) (get_or told i no_curve)
