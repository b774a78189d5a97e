-- `graph::rules::shut` meets its contract. The loop's invariant: whoever is left is of the arm, and to each of the arm that is not left every
-- edge is allowed. The measure is the set that is left, as a number.
use Rattle.graph.proofs.Shut.{Passed}
use Rattle.graph.proofs.rules.shut.Given as goal

abbrev pub invariant-loop-left : goal.invariant-loop-left
invariant-loop-left l =
    Passed l.into l.arm l.s l.first l.left

abbrev pub decreases-loop-left : goal.decreases-loop-left
decreases-loop-left l =
    l.left
