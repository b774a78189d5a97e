-- A speed and a rack: what they keep, and what the model's words say of them. Functions say it to each other.
use Rattle.std.specs.Prelude.{ℕ, ◌≤◌, ◌≡◌, Bool, true, List}
use Rattle.model.specs.Limits.{most_processors}
use Rattle.model.specs.Curve.{Curve, fits, demand, total, bound, overruns}
use Rattle.model.specs.Speeds.{speed_fits}
use Rattle.units.specs.declared.Speed.{Speed}
use Rattle.units.specs.declared.Rack.{Rack}

-- "A speed is p/q with 1 <= p <= q <= 31."
abbrev pub SpeedInRange : Speed → Type 0
SpeedInRange speed = speed_fits speed.p speed.q ≡ true

-- 1 to 16 processors, and a speed
pub record RackInRange (rack : Rack) : Type 0 where
  pub some : 1 ≤ rack.m
  pub few : rack.m ≤ most_processors
  pub speed : SpeedInRange rack.speed

-- a task fits its deadline at a speed, its demand, and W
abbrev pub fits_at : Speed → Curve → Bool
fits_at speed = fits speed.p speed.q

abbrev pub demand_at : Speed → Curve → ℕ → ℕ
demand_at speed = demand speed.p speed.q

abbrev pub total_at : Speed → List Curve → ℕ → ℕ
total_at speed = total speed.p speed.q

-- the bound of a rack, and the test for an overrun on it
abbrev pub bound_of : Rack → ℕ
bound_of rack = bound rack.m rack.speed.p rack.speed.q

abbrev pub overruns_on : Rack → List Curve → ℕ → Bool
overruns_on rack = overruns rack.m rack.speed.p rack.speed.q
