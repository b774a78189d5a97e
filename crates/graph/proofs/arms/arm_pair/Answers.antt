-- `graph::arms::arm_pair` meets its contract: what can be reached from the two vertices that the start leads to are its two arms.
use Prim.Native.Nat.{◌<◌}
use mathlib.Core.Path.{◌≡◌, sym, ◌∙◌, ap, subst}
use mathlib.Core.Logic.{inl, inr}
use native.Mathlib.Omega.{arith}
use lib.Dec.{eqb}
use lib.ListN.{get_or}
use Rattle.model.proofs.Ranges.{count_found}
use Rattle.vertices.specs.Members.{has}
use Rattle.vertices.proofs.Members.{positive}
use Rattle.graph.proofs.ArmWords.{shut_at, pair}
use Rattle.graph.proofs.WordRules.{arms_counted}
use Rattle.graph.proofs.arms.arm_pair.Goals.{then-end-lt-MOST_VERTICES, else-end-lt-MOST_VERTICES}
use Rattle.graph.proofs.arms.arm_pair.Goals as goal

pub rest-second-requires : goal.rest-second-requires
rest-second-requires c =
    let firsts = get_or c.args.out.now c.args.s 0 in
    let f = count_found 64 (has firsts) 0 (subst (λ k. 0 < k) (sym c.requires.1) (omega arith)) in
    positive firsts f.0 f.2

pub returns : goal.returns
returns c = λ t n upward edges mated.
    let args = c.args in
    let word = get_or args.out.now args.s 0 in
    let shuts =
    shut_at args.end c.if-end-lt-MOST_VERTICES.shut
    (elim c.if-end-lt-MOST_VERTICES.branch [
      | then-end-lt-MOST_VERTICES w ↦ inl (w.if-end-lt-MOST_VERTICES.true, λ u. ap (λ x. has x u) w.shut-is ∙ w.insert-shut.ensures u)
      | else-end-lt-MOST_VERTICES w ↦ inr (w.if-end-lt-MOST_VERTICES.false, w.shut-is)
    ]) in
    pair t n upward args.out.now edges args.s c.if-end-lt-MOST_VERTICES.shut
    (λ v l. subst (λ e. has c.if-end-lt-MOST_VERTICES.shut v ≡ eqb v e) (sym mated) (shuts v l)) word (edges args.s)
    (arms_counted t n upward args.s word (edges args.s) ∙ c.requires.1)
    c.rest-second.result c.minus.result c.arm-lower.result c.arm-higher.result
    c.rest-second.ensures.others c.minus.ensures c.arm-lower.ensures c.arm-higher.ensures
