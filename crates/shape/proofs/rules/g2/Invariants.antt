-- `shape::rules::g2` meets its contract. The loop's invariant: the mate of each start that is not left is named, and names it back. The
-- measure is the set that is left, as a number.
use Rattle.model.specs.Records.{shape_at}
use Rattle.shape.proofs.Pairing.{Named}
use Rattle.shape.proofs.rules.g2.Given as goal

abbrev pub invariant-loop-left : goal.invariant-loop-left
invariant-loop-left l =
    Named (shape_at l.task.set.now l.task.place) l.left l.named

abbrev pub decreases-loop-left : goal.decreases-loop-left
decreases-loop-left l =
    l.left
