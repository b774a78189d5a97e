-- `curve::walk::arm_piece` and `curve::walk::larger` meet their contracts. They call each other: each call is at an arm, which holds fewer
-- vertices than the set. The loop's invariant: the curve whose piece is the sum so far, and what is left, make up the work of the set at
-- every tick.
use Rattle.std.proofs.Common.{◌+◌, ◌*◌, max}
use Rattle.curve.proofs.WordWalk.{member_count}
use Rattle.curve.proofs.PieceWalk.{Walked}
use Rattle.curve.proofs.walk.+arm_piece_larger.Given as goal

abbrev pub decreases-arm_piece : goal.decreases-arm_piece
decreases-arm_piece l = 2 * member_count l.set

abbrev pub decreases-larger : goal.decreases-larger
decreases-larger l = 2 * max (member_count l.a) (member_count l.b) + 1

abbrev pub invariant-arm_piece-loop-left : goal.invariant-arm_piece-loop-left
invariant-arm_piece-loop-left l = Walked l.jobs l.speed.q l.x.0 l.set l.sum l.left

abbrev pub decreases-arm_piece-loop-left : goal.decreases-arm_piece-loop-left
decreases-arm_piece-loop-left l = member_count l.left
