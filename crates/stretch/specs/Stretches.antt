-- Stretches of a task's period over which its demand is a line, and those that are kept.
use Rattle.std.specs.Prelude.{ℕ, ◌+◌, ◌*◌, ◌≤◌, ◌<◌, ◌≡◌, true, List, length, get_or}
use Rattle.model.specs.Limits.{most_tick}
use Rattle.model.specs.Curve.{Curve}
use Rattle.units.specs.declared.Speed.{Speed}
use Rattle.units.specs.Rack.{SpeedInRange, fits_at, demand_at}
use Rattle.curve.specs.Charts.{no_curve}
use Rattle.places.specs.declared.Stretch.{Stretch}
use Rattle.places.specs.declared.Notes.{Notes}
use Rattle.places.specs.Places.{stretch_in}

-- a task that fits its deadline at a speed
abbrev pub AtSpeed : Speed → Curve → Type 0
AtSpeed speed c = SpeedInRange speed × (fits_at speed c ≡ true)

-- the demand is the line of the stretch
abbrev pub OnLine : Speed → Curve → Stretch → Type 0
OnLine speed c s = (j : ℕ) → j ≤ s.run.0 → demand_at speed c (s.from.0 + j) ≡ s.value.0 + s.slope * j

-- so, and the stretch lies within the period
pub record Stretches (speed : Speed) (c : Curve) (s : Stretch) : Type 0 where
  pub within : s.from.0 + s.run.0 ≤ speed.p * c.period
  pub on : OnLine speed c s

-- so, and the stretch lies within any period that begins up to the last tick
pub record Somewhere (speed : Speed) (c : Curve) (s : Stretch) : Type 0 where
  pub begins : s.from.0 ≤ most_tick
  pub short : s.run.0 ≤ speed.p * c.period
  pub on : OnLine speed c s

-- what stands at each of 64 places is a stretch of the task, and the line is one of it at any tick; zeros are both, since nothing is due at
-- tick 0
pub record Kept (speed : Speed) (c : Curve) (notes : Notes) : Type 0 where
  pub each : (place : ℕ) → place < 64 → Stretches speed c (stretch_in notes place)
  pub line : Somewhere speed c notes.line

-- the same for each of the tasks, whatever a read past the last gives
abbrev pub AllKept : List Curve → Speed → List Notes → Type 0
AllKept cs speed kept = (i : ℕ) → i < length cs → (past : Notes) → Kept speed (get_or cs i no_curve) (get_or kept i past)

-- what is asked: of a task, with what is kept of it, a tick up to a last one
pub record Asked (speed : Speed) (c : Curve) (x last : ℕ) (notes : Notes) : Type 0 where
  pub at_speed : AtSpeed speed c
  pub tick : (0 < x) × (x ≤ last)
  pub kept : Kept speed c notes

-- the stretch begins below a tick and reaches it
abbrev pub Around : ℕ → Stretch → Type 0
Around x s = (s.from.0 < x) × (x ≤ s.from.0 + s.run.0)

-- what is found: a stretch of the task around the tick, and what is kept is still of it
pub record Found (speed : Speed) (c : Curve) (x : ℕ) (s : Stretch) (notes : Notes) : Type 0 where
  pub around : Around x s
  pub line : Stretches speed c s
  pub kept : Kept speed c notes
