use Prim.Native.Nat.{◌+◌}
use mathlib.Core.Path.{◌≡◌, sym, ◌∙◌, subst}
use mathlib.Core.Bool.{true}
use native.Mathlib.Omega.{arith}
use lib.ListN.{get_or}
use Rattle.model.specs.Range.{every}
use Rattle.graph.proofs.WordRules.{linked, linked_more, none_in, none_out, joined_some, joined_alone, g1_words, g1_breaks}
use borrow.Author.Tests.{eq-eqb, ne_eqb}
use Rattle.graph.proofs.rules.g1.Goals.{else-v-ne0-via-then-v-ne0+else-links-v-eq0, else-v-ne0-via-else-v-ne0, else-v-n-via-then-v-n+else-links-v-eq0-2, else-v-n-via-else-v-n}
use Rattle.graph.proofs.rules.g1.Goals as goal

pub returns-then-links-v-eq0 : goal.returns-then-links-v-eq0
returns-then-links-v-eq0 c = λ t d l.
    let links = c.args.links.now in
    let v = c.loop-v.v in
    g1_breaks t c.args.n d links l v c.loop-v-test.true (none_in links c.args.n v c.if-v-ne0.true (eq-eqb _ 0 c.if-links-v-eq0.true))

pub returns-then-links-v-eq0-2 : goal.returns-then-links-v-eq0-2
returns-then-links-v-eq0-2 c = λ t d l.
    let links = c.args.links.now in
    let v = c.loop-v.v in
    g1_breaks t c.args.n d links l v c.loop-v-test.true (none_out links c.args.n v c.if-v-n.true (eq-eqb _ 0 c.if-links-v-eq0-2.true))

pub loop-v-preserved : goal.loop-v-preserved
loop-v-preserved c =
    let n = c.args.n in
    let v = c.loop-v.v in
    let links = c.args.links.now in
    linked_more links n v c.loop-v.invariant
    (elim c.else-v-ne0.branch [
      | else-v-ne0-via-then-v-ne0+else-links-v-eq0 w ↦ joined_some v 0 (get_or links.into v 0) (ne_eqb _ 0 w.if-links-v-eq0.false)
      | else-v-ne0-via-else-v-ne0 w ↦ joined_alone v 0 (get_or links.into v 0) w.if-v-ne0.false
    ])
    (elim c.else-v-n.branch [
      | else-v-n-via-then-v-n+else-links-v-eq0-2 w ↦ joined_some (v + 1) n (get_or links.out v 0) (ne_eqb _ 0 w.if-links-v-eq0-2.false)
      | else-v-n-via-else-v-n w ↦ joined_alone (v + 1) n (get_or links.out v 0) w.if-v-n.false
    ])

pub returns : goal.returns
returns c = λ t d l.
    let n = c.args.n in
    let links = c.args.links.now in
    let all : c.loop-v.v ≡ n = omega arith in
    sym (subst (λ k. every k (linked links n) ≡ true) all c.loop-v.invariant) ∙ g1_words t n d links l
