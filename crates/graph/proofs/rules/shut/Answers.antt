use Prim.Native.Nat.{ℕ}
use mathlib.Core.Path.{◌≡◌, sym, ◌∙◌, ap}
use mathlib.Core.Logic.{inl, inr}
use Rattle.vertices.specs.Members.{has}
use Rattle.vertices.proofs.Members.{rest_in}
use Rattle.graph.proofs.Taken.{taken}
use Rattle.graph.proofs.Shut.{allowed, may, begins, goes, entered, intruder, shut_true, shut_false}
use Rattle.graph.proofs.rules.shut.Goals.{After-lowest-v, Joined-v-first, then-v-first, else-v-first}
use Rattle.graph.proofs.rules.shut.Goals as goal

-- who may enter the vertex just taken
allow :
    (c : Joined-v-first) (u : ℕ)
    → has c.if-v-first.inside u
    ≡ allowed c.args.arm c.args.s
    c.lowest-first.result c.lowest-v.result u
allow c =
    may c.args.arm c.args.s c.lowest-first.result c.lowest-v.result c.if-v-first.inside
    (elim c.if-v-first.branch [
      | then-v-first w ↦ inl (w.if-v-first.true, λ u. ap (λ x. has x u) w.inside-is ∙ w.insert-inside.ensures u)
      | else-v-first w ↦ inr (w.if-v-first.false, w.inside-is)
    ])

pub loop-left-init : goal.loop-left-init
loop-left-init c = begins c.args.into.now c.args.arm c.args.s c.lowest-first.result

pub returns-then-minus-ne0 : goal.returns-then-minus-ne0
returns-then-minus-ne0 c = λ t n i upward edges is_arm.
    let met = (goal.at.returns-then-minus-ne0 c).Joined-v-first in
    let args = c.args in
    let v = c.lowest-v.result in
    let here = taken c.loop-left-test.true c.lowest-v.ensures.found c.lowest-v.ensures.within in
    sym (shut_false args.into.now args.arm args.s c.lowest-first.result t n i upward edges is_arm c.lowest-first.ensures.found v
    (c.loop-left.invariant.inside v here.member)
    (intruder args.into.now args.arm args.s c.lowest-first.result v met.if-v-first.inside c.minus.result (allow met)
    c.minus.ensures c.minus.type_inv c.if-minus-ne0.true))

pub loop-left-preserved : goal.loop-left-preserved
loop-left-preserved c =
    let met = (goal.at.loop-left-preserved c).Joined-v-first in
    let args = c.args in
    let v = c.lowest-v.result in
    goes args.into.now args.arm args.s c.lowest-first.result c.loop-left.left v c.rest-left.result c.loop-left.invariant
    (rest_in c.loop-left.left v c.rest-left.result c.lowest-v.ensures.found c.rest-left.ensures.others)
    (entered args.into.now args.arm args.s c.lowest-first.result v met.if-v-first.inside c.minus.result
    (allow met) c.minus.ensures c.if-minus-ne0.false)

pub returns : goal.returns
returns c = λ t n i upward edges is_arm.
    let args = c.args in
    sym (shut_true args.into.now args.arm args.s c.lowest-first.result t n i upward edges is_arm c.lowest-first.ensures.found
    c.loop-left.left c.loop-left.invariant c.loop-left-test.false)
