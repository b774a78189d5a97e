-- What is known of a choice by rule and by table, and the graph rules in the order of the code: G1, G2, then G3 to G6 at each choice.
use Prim.Native.Nat.{ℕ}
use mathlib.Core.Path.{◌≡◌, sym, ◌∙◌, ap}
use mathlib.Core.Bool.{Bool, true, false, ◌&&◌}
use mathlib.Core.List.{List, []}
use mathlib.Core.Logic.{◌⊎◌, inl, inr}
use lib.ListN.{get_or}
use Rattle.model.specs.Graph.{Shape, size, starts, in_arm, G1, G2, G3, G4, G5, G6, keeps_rules}
use Rattle.model.proofs.Ranges.{and_left, and_right, and_both, and_second, is_false, not_both, implied, implies, every_at, every_of}
use Rattle.model.proofs.ArmFacts.{start_below}
use Rattle.graph.specs.Words.{IsArm}
use Rattle.shape.specs.Choices.{ArmTable, splits, choices_keep}

-- G3 at every choice tells it of each
pub splits_at : (t : Shape) → splits t ≡ true → (s : ℕ) → starts t s ≡ true → G3 t s ≡ true
unfolding splits
splits_at t h s start = implied (starts t s) (G3 t s) (every_at (size t) _ h s (start_below t s start)) start

-- the words at a start are its arms
pub table_arm :
    (t : Shape) (table : List (List ℕ)) → ArmTable t table → (s : ℕ) → starts t s ≡ true
    → (i : ℕ) → IsArm t s i (get_or (get_or table s []) i 0)
table_arm t table arms s start i v = arms s i v ∙ ap (λ b. b && in_arm t s i v) start

-- a graph that keeps the rules keeps G3 at every choice
pub rules_split : (t : Shape) → keeps_rules t ≡ true → splits t ≡ true
unfolding splits keeps_rules
rules_split t all =
    every_of (size t) _ (λ s l.
    implies (starts t s) (G3 t s) (λ start.
    let four = implied (starts t s) (G3 t s && G4 t s && G5 t s && G6 t s) (every_at (size t) _ (and_right (G1 t && G2 t) _ all) s l) start in
    let three = and_left (G3 t s && G4 t s && G5 t s) (G6 t s) four in
    and_left (G3 t s) (G4 t s) (and_left (G3 t s && G4 t s) (G5 t s) three)))

-- one of the first two broken is enough
pub rules_broken : (t : Shape) → (G1 t ≡ false) ⊎ (G2 t ≡ false) → false ≡ keeps_rules t
unfolding keeps_rules
rules_broken t broken =
    sym
    (is_false (keeps_rules t)
    (λ all.
    let two = and_left (G1 t && G2 t) _ all in
    elim broken [
      | inl a ↦ not_both (G1 t) (and_left (G1 t) (G2 t) two) a
      | inr b ↦ not_both (G2 t) (and_right (G1 t) (G2 t) two) b
    ]))

-- where they hold, the choices decide
pub rules_last : (t : Shape) → G1 t ≡ true → G2 t ≡ true → choices_keep t ≡ keeps_rules t
unfolding choices_keep keeps_rules
rules_last t a b = and_second (G1 t && G2 t) _ (and_both (G1 t) (G2 t) a b)

-- G3 to G6 at a start: G3 decides, and where it holds the others
abbrev pub rules_at : Shape → ℕ → Bool
rules_at t s = G3 t s && G4 t s && G5 t s && G6 t s

pub split_broken : (t : Shape) (s : ℕ) → G3 t s ≡ false → rules_at t s ≡ false
split_broken t s h = ap (λ b. b && G4 t s && G5 t s && G6 t s) h

pub split_kept :
    (t : Shape) (s : ℕ) {answer : Bool} → G3 t s ≡ true → answer ≡ (G4 t s && G5 t s && G6 t s) → answer ≡ rules_at t s
split_kept t s h same = same ∙ sym (ap (λ b. b && G4 t s && G5 t s && G6 t s) h)
