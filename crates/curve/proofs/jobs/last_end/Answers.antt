use Prim.Native.Nat.{◌<◌}
use mathlib.Core.Path.{◌∙◌, ap}
use native.Mathlib.Nat.{pos_of_ne-zero}
use native.Mathlib.Omega.{arith}
use lib.Dec.{lit<}
use lib.ListN.{get_or}
use borrow.Author.Rules.{scaled_Fits}
use Rattle.model.specs.Limits.{most_vertices}
use Rattle.vertices.specs.Members.{has}
use Rattle.vertices.proofs.Members.{has_zero, lowest_in, rest_in}
use Rattle.curve.proofs.LatestEnds.{none_seen, one_seen, all_seen}
use Rattle.curve.proofs.jobs.last_end.Goals.{After-lowest}
use Rattle.curve.proofs.jobs.last_end.Goals as goal

-- the lowest of those left is a vertex
below : (c : After-lowest) → c.lowest.result < most_vertices
below c = c.lowest.ensures.within (pos_of_ne-zero c.loop-left-test.true)

pub loop-left-init : goal.loop-left-init
loop-left-init c = none_seen most_vertices (λ u. get_or c.args.ends.now u 0) (has c.args.before)

pub offset_bounds-ends-lowest : goal.offset_bounds-ends-lowest
offset_bounds-ends-lowest c = scaled_Fits c.lowest.result 64 8 (below (goal.at.offset_bounds-ends-lowest c).After-lowest) (lit< tt)

pub bounds-ends-lowest : goal.bounds-ends-lowest
bounds-ends-lowest c = below (goal.at.bounds-ends-lowest c).After-lowest

pub rest-left-requires : goal.rest-left-requires
rest-left-requires c = pos_of_ne-zero c.loop-left-test.true

pub loop-left-preserved : goal.loop-left-preserved
loop-left-preserved c =
    let turn = (goal.at.loop-left-preserved c).After-lowest in
    let args = c.args in
    let left = c.loop-left.left in
    let last = c.loop-left.last in
    let v = turn.lowest.result in
    one_seen most_vertices (λ u. get_or args.ends.now u 0) (has left) (has c.rest-left.result) v (below turn)
    (lowest_in left v turn.lowest.ensures.found (below turn))
    (rest_in left v c.rest-left.result turn.lowest.ensures.found c.rest-left.ensures.others)
    (has args.before) last c.max-last.result c.loop-left.invariant (omega (arith, c.max-last.ensures))

pub returns : goal.returns
returns c =
    let args = c.args in
    let loop = c.loop-left in
    all_seen most_vertices (λ u. get_or args.ends.now u 0) (has args.before) (has loop.left) loop.last loop.invariant
    (λ u. ap (λ w. has w u) c.loop-left-test.false ∙ has_zero u)
