-- `rough::clear_roughly` meets its contract. The loop's invariant: nothing overruns from what is left on up to the last tick. The
-- measure is what is left.
use Prim.Native.Nat.{◌≤◌}
use mathlib.Core.List.{List, map}
use Rattle.model.specs.Curve.{Curve}
use Rattle.curve.specs.Figured.{AllFill}
use Rattle.rough.specs.Rough.{Clears}
use Rattle.rough.proofs.clear_roughly.Given as goal

abbrev pub invariant-loop-left : goal.invariant-loop-left
invariant-loop-left g l =
    (l.left ≤ l.initial.left) × ((cs : List Curve) → AllFill cs (map g.T.Figured.told l.load.tasks.now) → Clears l.load.rack cs l.left l.initial.left)

abbrev pub decreases-loop-left : goal.decreases-loop-left
decreases-loop-left g l =
    l.left
