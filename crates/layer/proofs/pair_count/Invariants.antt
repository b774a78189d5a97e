-- `layer::pair_count` meets its contract. The loop's invariant: x is a tick of the task, and the count of pairs from x on with the
-- width of the first. The measure is x.
use Prim.Native.Nat.{◌*◌, ◌≤◌}
use Rattle.curve.specs.Charts.{chart_curve}
use Rattle.layer.proofs.Pairs.{Counted}
use Rattle.layer.proofs.pair_count.Given as goal

abbrev pub invariant-loop-x : goal.invariant-loop-x
invariant-loop-x l =
    let curve = chart_curve l.chart in
    (l.x ≤ l.speed.q * curve.length) × Counted curve l.speed.q l.x l.pairs l.first

abbrev pub decreases-loop-x : goal.decreases-loop-x
decreases-loop-x l =
    l.x
