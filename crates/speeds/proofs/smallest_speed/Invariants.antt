-- `speeds::smallest_speed` meets its contract. The loop's invariant: what is known once each q before this one was looked at.
use Prim.Native.Nat.{◌-◌}
use Rattle.model.proofs.Speeds.{Nearest}
use Rattle.speeds.proofs.smallest_speed.Given as goal

abbrev pub invariant-loop-q : goal.invariant-loop-q
invariant-loop-q l =
    Nearest l.least.n l.least.d (l.q - 1) l.p l.smallest.p l.smallest.q
