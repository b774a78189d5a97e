-- `graph::rules::closing` meets its contract. The loop's invariant: what is found, and what among those left is to be found, is all there is
-- to find. The measure is the set that is left, as a number.
use Rattle.graph.proofs.Closing.{Found}
use Rattle.graph.proofs.rules.closing.Given as goal

abbrev pub invariant-loop-left : goal.invariant-loop-left
invariant-loop-left l =
    Found l.out l.arm l.left l.last

abbrev pub decreases-loop-left : goal.decreases-loop-left
decreases-loop-left l =
    l.left
