-- A line above the demand of a task, from its figures: the demand at tick x, times the p·h ticks of a cycle, is at most work·x + late.
use Rattle.std.specs.Prelude.{ℕ, ◌+◌, ◌-◌, ◌*◌, ◌/◌}
use Rattle.model.specs.Curve.{Curve}
use Rattle.units.specs.declared.Speed.{Speed}

-- the work of the task in a cycle of h time units
unfoldable pub work_of : Speed → ℕ → Curve → ℕ
work_of speed h c = speed.q * c.volume * (h / c.period)

-- that work for each tick by which the line is ahead: what the period has beyond the deadline, and the length
unfoldable pub late_of : Speed → ℕ → Curve → ℕ
late_of speed h c = work_of speed h c * (speed.p * c.period - speed.p * c.deadline + speed.q * c.length)
