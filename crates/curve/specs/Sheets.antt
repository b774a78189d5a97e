-- What the jobs of a readable task keep, and what a walk over them asks for: arms that nest, and room for every number.
use Rattle.std.specs.Prelude.{ℕ, ◌*◌, ◌^◌, ◌≤◌, ◌<◌, ◌≡◌, true, List, get_or}
use Rattle.model.specs.Limits.{longest_job, largest_volume}
use Rattle.model.specs.Lawful.{Limited}
use Rattle.vertices.specs.Members.{has}
use Rattle.curve.specs.declared.chart.Figures.{Figures}
use Rattle.curve.specs.declared.chart.Jobs.{Jobs}
use Rattle.curve.specs.Tables.{arm_of, work_left, table_curve}

-- a set that holds the arms of each choice whose start it holds
abbrev pub Closed : List (List ℕ) → ℕ → Type 0
Closed arms set = (u j w : ℕ) → has set u ≡ true → has (arm_of arms u j) w ≡ true → has set w ≡ true

-- arms lie above their start, and hold the arms of each choice that starts in them
pub record Laid (arms : List (List ℕ)) : Type 0 where
  pub above : (v i u : ℕ) → has (arm_of arms v i) u ≡ true → v < u
  pub nested : (v i : ℕ) → Closed arms (arm_of arms v i)

-- what the sum over a set asks: arms that nest, a set that holds them whole, and room for each job and for the sum at every tick
pub record Walks (tables : Jobs) (q set : ℕ) : Type 0 where
  pub laid : Laid tables.arms
  pub closed : Closed tables.arms set
  pub jobs : (v : ℕ) → q * get_or tables.times v 0 < 2 ^ 64
  pub dues : (v : ℕ) → q * get_or tables.ends v 0 < 2 ^ 64
  pub sum : (x : ℕ) → work_left tables q set x < 2 ^ 64

-- What figures and jobs of a readable task keep, so that every number made from them fits its word.
pub record Sheet (figures : Figures) (tables : Jobs) : Type 0 where
  pub laid : Laid tables.arms
  pub closed : Closed tables.arms figures.vertices
  pub jobs : (v : ℕ) → get_or tables.times v 0 ≤ longest_job
  pub dues : (v : ℕ) → get_or tables.ends v 0 ≤ largest_volume
  pub curve : Limited (table_curve figures tables)
