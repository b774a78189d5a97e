-- A call and its speed: where its tasks must fit their deadlines, and the speed that it uses.
use Rattle.std.specs.Prelude.{◌≡◌, true, false, cond, List}
use Rattle.model.specs.Curve.{Curve}
use Rattle.model.specs.Speeds.{Smallest, unnamed}
use Rattle.model.specs.Entries.{judge_takes}
use Rattle.units.specs.declared.Speed.{Speed}
use Rattle.units.specs.declared.Rack.{Rack}
use Rattle.speeds.specs.Covering.{Covers}

-- a rack as a call names it, with 0/0 for the default speed
abbrev pub Called : Rack → Type 0
Called call = judge_takes call.m call.speed.p call.speed.q ≡ true

-- "8: q·length > p·deadline" at the speed named; with 0/0 the "task whose length exceeds its deadline", which is so at 1/1
abbrev pub dense_speed : Speed → Speed
dense_speed speed = cond (unnamed speed.p speed.q) (record { p = 1; q = 1 }) speed

-- the speed that a call uses on tasks: the one named, or the smallest that covers rack and tasks
pub data UsedOn (call : Rack) (cs : List Curve) : Speed → Type 0 where
  named : unnamed call.speed.p call.speed.q ≡ false → UsedOn call cs call.speed
  default :
      (speed : Speed) → unnamed call.speed.p call.speed.q ≡ true
      → Smallest (Covers call.m cs) speed.p speed.q → UsedOn call cs speed
