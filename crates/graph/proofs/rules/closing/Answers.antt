use mathlib.Core.Path.{sym, ◌∙◌, ap}
use mathlib.Core.Bool.{not}
use mathlib.Core.Logic.{inl, inr}
use Rattle.vertices.specs.Members.{has}
use Rattle.vertices.proofs.Members.{rest_in}
use Rattle.graph.proofs.Taken.{taken}
use Rattle.graph.proofs.Closing.{begins, done, goes}
use Rattle.graph.proofs.rules.closing.Goals.{After-lowest-v, then-not-meets, else-not-meets}
use Rattle.graph.proofs.rules.closing.Goals as goal

pub loop-left-init : goal.loop-left-init
loop-left-init c = begins c.args.out.now c.args.arm

pub loop-left-preserved : goal.loop-left-preserved
loop-left-preserved c =
    let left = c.loop-left.left in
    let v = c.lowest-v.result in
    let here = taken c.loop-left-test.true c.lowest-v.ensures.found c.lowest-v.ensures.within in
    let meets = c.meets.ensures in
    goes c.args.out.now c.args.arm left c.loop-left.last v c.rest-left.result
    c.if-not-meets.last c.loop-left.invariant here.member
    (rest_in left v c.rest-left.result c.lowest-v.ensures.found c.rest-left.ensures.others)
    (elim c.if-not-meets.branch [
      | then-not-meets w ↦ inl (ap not (sym meets ∙ w.if-not-meets.true), λ u. ap (λ x. has x u) w.last-is ∙ w.insert-last.ensures u)
      | else-not-meets w ↦ inr (ap not (sym meets ∙ w.if-not-meets.false), w.last-is)
    ])

pub returns : goal.returns
returns c =
    let loop = c.loop-left in
    done c.args.out.now c.args.arm loop.left loop.last loop.invariant c.loop-left-test.false
