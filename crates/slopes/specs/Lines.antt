-- Lines of demand that end or begin at a tick.
use Rattle.std.specs.Prelude.{ℕ, ◌+◌, ◌-◌, ◌*◌, ◌≤◌, ◌<◌, ◌≡◌}
use Rattle.model.specs.Curve.{Curve}
use Rattle.units.specs.declared.Speed.{Speed}
use Rattle.units.specs.Rack.{demand_at}
use Rattle.slopes.specs.declared.lines.Line.{Line}

-- from tick x down each tick takes `slope` off f, for a run of ticks
pub record Falls (f : ℕ → ℕ) (x : ℕ) (line : Line) : Type 0 where
  pub some : 0 < line.run.0
  pub within : line.run.0 ≤ x
  pub on : (j : ℕ) → j ≤ line.run.0 → f (x - j) + line.slope * j ≡ line.value.0

-- from tick x each tick adds `slope`, for a run of ticks no longer than a period
pub record Grows (speed : Speed) (c : Curve) (x slope run : ℕ) : Type 0 where
  pub some : 0 < run
  pub short : run ≤ speed.p * c.period
  pub on : (j : ℕ) → j ≤ run → demand_at speed c (x + j) ≡ demand_at speed c x + slope * j
