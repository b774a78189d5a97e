-- `layer::write_pairs` meets its contract. The loop's invariant: x is a tick of the task, and the pairs from x on stand at their
-- places. The measure is x.
use Prim.Native.Nat.{◌*◌, ◌≤◌}
use Rattle.curve.specs.Charts.{chart_curve}
use Rattle.layer.proofs.Pairs.{behind, Written}
use Rattle.layer.proofs.write_pairs.Given as goal

abbrev pub invariant-loop-x : goal.invariant-loop-x
invariant-loop-x l =
    let curve = chart_curve l.chart in
    (l.x ≤ l.speed.q * curve.length) × Written l.initial.table l.pairs l.at (behind curve l.speed.q l.x) l.table

abbrev pub decreases-loop-x : goal.decreases-loop-x
decreases-loop-x l =
    l.x
