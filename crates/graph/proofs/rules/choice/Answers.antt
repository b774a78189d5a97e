-- `graph::rules::choice` meets its contract: G3 gives the two arms that G4 and G6 ask for.
use Prim.Native.Nat.{ℕ}
use mathlib.Core.Path.{◌≡◌, sym, ◌∙◌}
use mathlib.Core.Bool.{true, ◌&&◌}
use Rattle.model.specs.Graph.{Shape, mate, G3, G4, G5, G6}
use Rattle.model.proofs.Ranges.{and_first, and_second}
use Rattle.model.proofs.ArmFacts.{two_arms_lem}
use Rattle.graph.specs.Words.{Upward, LinksOf, AreArms}
use Rattle.graph.proofs.rules.choice.Goals.{Joined-g4, then-g4, else-g4}
use Rattle.graph.proofs.rules.choice.Goals as goal

-- the flag of the first two rules
both :
    (c : Joined-g4) → let start = c.args in
    (t : Shape) (n : ℕ) → Upward t n → LinksOf t start.links.now → mate t start.s ≡ start.end
    → G3 t start.s ≡ true → AreArms t start.s start.pair
    → c.if-g4.value ≡ (G4 t start.s && G5 t start.s)
both c t n upward links end rule are =
    let s = c.args.s in
    let fourth = c.g4.ensures t n s upward (two_arms_lem t s rule) are in
    elim c.if-g4.branch [
      | then-g4 w ↦
          w.value-is ∙ w.g5.ensures t n s upward links end rule are
          ∙ and_second (G4 t s) (G5 t s) (sym fourth ∙ w.if-g4.true)
      | else-g4 w ↦ w.value-is ∙ fourth ∙ and_first (G4 t s) (G5 t s) (sym fourth ∙ w.if-g4.false)
    ]

pub returns-then-g5 : goal.returns-then-g5
returns-then-g5 c = λ t n upward links end rule are.
    let joined = (goal.at.returns-then-g5 c).Joined-g4 in
    let s = joined.args.s in
    let five = both joined t n upward links end rule are in
    c.g6.ensures t n upward links.into (two_arms_lem t s rule) are
    ∙ and_second (G4 t s && G5 t s) (G6 t s) (sym five ∙ c.if-g5.true)

pub returns-else-g5 : goal.returns-else-g5
returns-else-g5 c = λ t n upward links end rule are.
    let s = c.args.s in
    let five = both (goal.at.returns-else-g5 c).Joined-g4 t n upward links end rule are in
    five ∙ and_first (G4 t s && G5 t s) (G6 t s) (sym five ∙ c.if-g5.false)
