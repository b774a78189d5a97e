use Rattle.std.proofs.Common.{ℕ, ◌≡◌}
use mathlib.Core.Bool.{not, ◌&&◌}
use native.Mathlib.Nat.{pos_of_ne-zero}
use lib.Dec.{eqb}
use Rattle.vertices.specs.Members.{has}
use Rattle.vertices.proofs.Members.{rest_in}
use Rattle.curve.proofs.WordWalk.{lowest_of, Bare, bare_of, Leaves, leaves_all, leaves_outside, fewer}
use Rattle.curve.proofs.PieceWalk.{begun, whole, Turn, job_fits, arm_fits, arms_walk, arms_fewer, choice_turn, plain_turn}
use Rattle.curve.proofs.walk.+arm_piece_larger.Goals.{arm_piece-After-lowest-v, arm_piece-After-rest-left, arm_piece-Else-both-ne0, arm_piece-After-minus-left}
use Rattle.curve.proofs.walk.+arm_piece_larger.Goals as goal

-- a turn begins with the lowest vertex of what is left
turn_at :
    (t : ℕ) (c : arm_piece-After-lowest-v t)
    → Turn c.args.jobs.now c.args.speed.q c.args.x.0 c.args.set c.loop-left.sum
    c.loop-left.left c.lowest-v.result
turn_at t c =
    let small = c.lowest-v.ensures.within (pos_of_ne-zero c.loop-left-test.true) in
    record {
      walks = c.requires.walks;
      walked = c.loop-left.invariant;
      lowest = lowest_of c.loop-left.left c.lowest-v.result c.lowest-v.ensures.found small;
    }

-- the others of what is left
others_at :
    (t : ℕ) (c : arm_piece-After-rest-left t) (u : ℕ)
    → has c.rest-left.result u ≡ (has c.loop-left.left u && not (eqb u c.lowest-v.result))
others_at t c = rest_in c.loop-left.left c.lowest-v.result c.rest-left.result c.lowest-v.ensures.found c.rest-left.ensures.others

-- a vertex with no vertex in either arm
bare_at : (t : ℕ) (c : arm_piece-Else-both-ne0 t) → Bare c.args.jobs.now.arms c.lowest-v.result
bare_at t c = bare_of c.args.jobs.now.arms c.lowest-v.result c.union-both.result c.union-both.ensures c.if-both-ne0.false

-- a turn at it leaves all the others
plain_leaves : (t : ℕ) (c : arm_piece-Else-both-ne0 t) → Leaves c.args.jobs.now.arms c.loop-left.left c.lowest-v.result c.rest-left.result
plain_leaves t c =
    leaves_all c.args.jobs.now.arms c.loop-left.left c.lowest-v.result c.rest-left.result
    (others_at t (goal.at.arm_piece-Else-both-ne0 t c).After-rest-left) (bare_at t c)

-- a turn at a choice leaves those outside its arms
choice_leaves : (t : ℕ) (c : arm_piece-After-minus-left t) → Leaves c.args.jobs.now.arms c.loop-left.left c.lowest-v.result c.minus-left.result
choice_leaves t c =
    leaves_outside c.args.jobs.now.arms c.loop-left.left c.lowest-v.result c.rest-left.result
    (others_at t (goal.at.arm_piece-After-minus-left t c).After-rest-left) c.union-both.result c.minus-left.result c.union-both.ensures
    c.minus-left.ensures

pub arm_piece-loop-left-init : goal.arm_piece-loop-left-init
arm_piece-loop-left-init t c = begun _ _ _ _ c.requires.x_nonzero

pub arm_piece-plus-sum-requires : goal.arm_piece-plus-sum-requires
arm_piece-plus-sum-requires t c = job_fits (turn_at t (goal.at.arm_piece-plus-sum-requires t c).After-lowest-v) c.job_piece.ensures

pub arm_piece-larger-requires : goal.arm_piece-larger-requires
arm_piece-larger-requires t c =
    let turn = turn_at t (goal.at.arm_piece-larger-requires t c).After-lowest-v in
    let walk = arms_walk turn in
    (arms_fewer turn c.decreases, (walk.0, (walk.1, c.requires.x_nonzero)))

pub arm_piece-plus-sum-requires-then-both-ne0 : goal.arm_piece-plus-sum-requires-then-both-ne0
arm_piece-plus-sum-requires-then-both-ne0 t c =
    arm_fits (turn_at t (goal.at.arm_piece-plus-sum-requires-then-both-ne0 t c).After-lowest-v) c.job_piece.ensures c.plus-sum.ensures
    c.larger.ensures

pub arm_piece-loop-left-smaller-then-both-ne0 : goal.arm_piece-loop-left-smaller-then-both-ne0
arm_piece-loop-left-smaller-then-both-ne0 t c =
    let earlier = goal.at.arm_piece-loop-left-smaller-then-both-ne0 t c in
    fewer (turn_at t earlier.After-lowest-v).lowest (choice_leaves t earlier.After-minus-left)

pub arm_piece-loop-left-preserved-then-both-ne0 : goal.arm_piece-loop-left-preserved-then-both-ne0
arm_piece-loop-left-preserved-then-both-ne0 t c =
    let earlier = goal.at.arm_piece-loop-left-preserved-then-both-ne0 t c in
    choice_turn (turn_at t earlier.After-lowest-v) c.job_piece.ensures c.plus-sum.ensures
    c.larger.ensures c.plus-sum-then-both-ne0.ensures (choice_leaves t earlier.After-minus-left)

pub arm_piece-loop-left-smaller : goal.arm_piece-loop-left-smaller
arm_piece-loop-left-smaller t c =
    let earlier = goal.at.arm_piece-loop-left-smaller t c in
    fewer (turn_at t earlier.After-lowest-v).lowest (plain_leaves t earlier.Else-both-ne0)

pub arm_piece-loop-left-preserved : goal.arm_piece-loop-left-preserved
arm_piece-loop-left-preserved t c =
    let earlier = goal.at.arm_piece-loop-left-preserved t c in
    plain_turn (turn_at t earlier.After-lowest-v) c.job_piece.ensures c.plus-sum.ensures (bare_at t earlier.Else-both-ne0)
    (plain_leaves t earlier.Else-both-ne0)

pub arm_piece-returns : goal.arm_piece-returns
arm_piece-returns t c = whole _ _ _ _ c.loop-left.invariant c.loop-left-test.false

pub larger-returns : goal.larger-returns
larger-returns t c = c.larger_of.ensures _ _ _ c.arm_piece-first.ensures c.arm_piece-second.ensures
