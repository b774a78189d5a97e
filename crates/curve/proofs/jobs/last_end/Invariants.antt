-- `curve::jobs::last_end` meets its contract. The loop's invariant: the larger of the last end so far and of the last among those left is
-- the last of all. The measure is the set that is left, as a number.
use lib.ListN.{get_or}
use Rattle.model.specs.Limits.{most_vertices}
use Rattle.vertices.specs.Members.{has}
use Rattle.curve.proofs.LatestEnds.{Seen}
use Rattle.curve.proofs.jobs.last_end.Given as goal

abbrev pub invariant-loop-left : goal.invariant-loop-left
invariant-loop-left l =
    Seen most_vertices (λ u. get_or l.ends u 0) (has l.before) (has l.left) l.last

abbrev pub decreases-loop-left : goal.decreases-loop-left
decreases-loop-left l =
    l.left
