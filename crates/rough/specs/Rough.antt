-- What a rough look counts, and what it clears.
use Rattle.std.specs.Prelude.{ℕ, ◌+◌, ◌-◌, ◌*◌, ◌/◌, ◌%◌, ◌≤◌, ◌<◌, ◌≡◌, false, List, ltb}
use Rattle.model.specs.Range.{only}
use Rattle.model.specs.Curve.{Curve}
use Rattle.units.specs.declared.Speed.{Speed}
use Rattle.units.specs.declared.Rack.{Rack}
use Rattle.units.specs.Rack.{overruns_on}

-- no less than the demand of a task at tick x: whole periods, and all of the broken one once it is past its latest start
unfoldable pub most_of : Speed → Curve → ℕ → ℕ
most_of speed c x =
    let turn = speed.p * c.period in
    let work = speed.q * c.volume in
    work * (x / turn) + only (ltb (speed.p * c.deadline - speed.q * c.length) (x % turn)) work

-- nothing overruns from a tick on up to the end
pub record Clears (rack : Rack) (cs : List Curve) (from end : ℕ) : Type 0 where
  pub within : from ≤ end
  pub fine : (y : ℕ) → from ≤ y → y < end → overruns_on rack cs y ≡ false
