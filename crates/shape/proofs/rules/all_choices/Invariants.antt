-- `shape::rules::all_choices` meets its contract: the walk passes starts at which G3 to G6 hold, and one at which they do not breaks the
-- rules. The measure is the set that is left, as a number.
use Rattle.model.specs.Records.{shape_at}
use Rattle.shape.proofs.Walk.{Passed}
use Rattle.shape.proofs.Choices.{rules_at}
use Rattle.shape.proofs.rules.all_choices.Given as goal

abbrev pub invariant-loop-left : goal.invariant-loop-left
invariant-loop-left l =
    Passed (shape_at l.task.set.now l.task.place) (rules_at (shape_at l.task.set.now l.task.place)) l.left

abbrev pub decreases-loop-left : goal.decreases-loop-left
decreases-loop-left l =
    l.left
