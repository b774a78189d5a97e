-- `graph::arms::arm` meets its contract. The loop's invariant: whoever is seen or next is shut, of the first, or has an edge from one that is
-- seen. The measure is how far the set seen, as a number, is from the highest.
use Prim.Native.Nat.{◌-◌, ◌^◌}
use Rattle.graph.proofs.ArmWords.{Search}
use Rattle.graph.proofs.arms.arm.Given as goal

abbrev pub invariant-loop-next : goal.invariant-loop-next
invariant-loop-next l =
    Search l.out l.first l.shut l.seen l.next

abbrev pub decreases-loop-next : goal.decreases-loop-next
decreases-loop-next l =
    2 ^ 64 - l.seen
