-- `shape::arms::arm_table` meets its contract. The loop's invariant: the rows of the starts that are not left hold their arms. The measure
-- is the set that is left, as a number.
use Rattle.model.specs.Records.{shape_at}
use Rattle.shape.proofs.ArmRows.{Rows}
use Rattle.shape.proofs.arms.arm_table.Given as goal

abbrev pub invariant-loop-left : goal.invariant-loop-left
invariant-loop-left l =
    Rows (shape_at l.task.set.now l.task.place) l.left l.table

abbrev pub decreases-loop-left : goal.decreases-loop-left
decreases-loop-left l =
    l.left
