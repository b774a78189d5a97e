-- `graph::rules::g3` meets its contract: the three tests are the rule's, over the words of the start and of the end.
use Prim.Native.Nat.{ℕ}
use mathlib.Core.Path.{◌≡◌, sym, ◌∙◌, ap}
use mathlib.Core.Bool.{Bool, not, ◌&&◌}
use lib.Dec.{eqb}
use lib.ListN.{get_or}
use borrow.Author.Tests.{eq-eqb, ne_eqb}
use Rattle.model.specs.Range.{count}
use Rattle.model.specs.Graph.{Shape, mate, G3}
use Rattle.vertices.specs.Members.{has}
use Rattle.graph.specs.Words.{Upward, LinksOf}
use Rattle.graph.proofs.WordRules.{g3_words}
use Rattle.graph.proofs.rules.g3.Goals.{Joined-size-eq2, then-size-eq2, else-size-eq2}
use Rattle.graph.proofs.rules.g3.Goals as goal

-- the start's edges out, and the end's edges in
abbrev firsts : Joined-size-eq2 → ℕ
firsts c = let start = c.args in get_or start.links.now.out start.s 0

abbrev lasts : Joined-size-eq2 → ℕ
lasts c = let start = c.args in get_or start.links.now.into start.end 0

-- the flag of the first two tests
both :
    (c : Joined-size-eq2)
    → c.if-size-eq2.value ≡ (eqb c.size.result 2 && not (has (firsts c) c.args.end))
both c =
    let apart = not (has (firsts c) c.args.end) in
    elim c.if-size-eq2.branch [
      | then-size-eq2 w ↦ w.value-is ∙ ap not w.has.ensures ∙ sym (ap (λ b. b && apart) (eq-eqb c.size.result 2 w.if-size-eq2.true))
      | else-size-eq2 w ↦ let other = ne_eqb c.size.result 2 w.if-size-eq2.false in w.value-is ∙ other ∙ sym (ap (λ b. b && apart) other)
    ]

-- with the third test it is the rule
rule :
    {b : Bool} (c : Joined-size-eq2) → c.if-size-eq2.value ≡ b → let start = c.args in
    (t : Shape) (n : ℕ) → Upward t n → LinksOf t start.links.now → mate t start.s ≡ start.end → (b && eqb (count 64 (has (lasts c))) 2) ≡ G3 t start.s
rule c h t n d l m =
    let start = c.args in
    ap (λ x. x && eqb (count 64 (has (lasts c))) 2)
    (sym h ∙ both c ∙ ap (λ k. eqb k 2 && not (has (firsts c) start.end)) c.size.ensures)
    ∙ g3_words t n d start.s (firsts c) (lasts c) start.end m (l.out start.s) (λ u. l.into u start.end)

pub returns-then-not-has : goal.returns-then-not-has
returns-then-not-has c = λ t n d l m.
    ap (λ k. eqb k 2) c.size-then-not-has.ensures ∙ rule (goal.at.returns-then-not-has c).Joined-size-eq2 c.if-not-has.true t n d l m

pub returns-else-not-has : goal.returns-else-not-has
returns-else-not-has c = λ t n d l m. c.if-not-has.false ∙ rule (goal.at.returns-else-not-has c).Joined-size-eq2 c.if-not-has.false t n d l m
