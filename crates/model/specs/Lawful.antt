-- What the curve of a readable task keeps. Functions say it to each other; no answer of an entry is defined by it.
use Rattle.std.specs.Prelude.{ℕ, ◌*◌, ◌≤◌, ◌≡◌}
use Rattle.model.specs.Limits.{longest_period, largest_volume}
use Rattle.model.specs.Curve.{Curve}

-- a deadline within the period; work that falls with the tick, from the whole volume to nothing once the length is over
pub record Lawful (c : Curve) : Type 0 where
  pub some : 1 ≤ c.deadline
  pub constrained : c.deadline ≤ c.period
  pub falls : (q x y : ℕ) → x ≤ y → c.remains q y ≤ c.remains q x
  pub whole : (q : ℕ) → c.remains q 0 ≡ q * c.volume
  pub over : (q x : ℕ) → q * c.length ≤ x → c.remains q x ≡ 0

-- so, and its figures keep the limits
pub record Limited (c : Curve) : Type 0 where
  pub lawful : Lawful c
  pub period : c.period ≤ longest_period
  pub length : c.length ≤ largest_volume
  pub volume : c.volume ≤ largest_volume
