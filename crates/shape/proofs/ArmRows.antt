-- The table of arms: each turn of its loop settles the row of one start.
use Prim.Native.Nat.{ℕ, zero, suc, ◌<◌}
use mathlib.Core.Path.{◌≡◌, refl, sym, ◌∙◌, ap, ap₂}
use mathlib.Core.Bool.{Bool, true, false, not, ◌&&◌}
use mathlib.Core.List.{List, []}
use mathlib.Core.Logic.{inl, inr}
use native.Mathlib.Omega.{arith}
use lib.Dec.{eqb}
use lib.ListN.{length, get_or, set, replicate, length-set}
use lib.Seq.{get_or-set_same, get_or-set_other}
use borrow.Author.Tests.{eqb-true, eqb-false}
use Rattle.model.specs.Limits.{most_vertices}
use Rattle.model.specs.Range.{count}
use Rattle.model.specs.Graph.{Shape, starts, in_arm, G3}
use Rattle.model.proofs.Ranges.{decided}
use Rattle.model.proofs.Lists.{padded}
use Rattle.model.proofs.ArmFacts.{two_arms_lem}
use Rattle.vertices.specs.Members.{has}
use Rattle.vertices.proofs.Members.{has_zero}
use Rattle.graph.specs.Words.{Upward, OutOf, IsArm}
use Rattle.graph.proofs.WordRules.{arms_counted}
use Rattle.shape.specs.Choices.{AreStarts, ArmTable}
use Rattle.shape.proofs.Walk.{Takes, passed, stays, still, none_left, all_left}

-- the word of each arm in a table of empty ones
all_empty : (n m r i : ℕ) → ◌≡◌ {A = ℕ} (get_or (get_or (replicate n (replicate m 0)) r []) i 0) 0
all_empty zero m r i = refl
all_empty (suc n) m zero i = padded [] m i
all_empty (suc n) m (suc r) i = all_empty n m r i

-- a start that keeps G3 has two edges out
pub two_out :
    {t : Shape} {n : ℕ} (out : List ℕ) → Upward t n → OutOf t out → (s : ℕ) → G3 t s ≡ true → count 64 (has (get_or out s 0)) ≡ 2
two_out {t} {n} out d edges s rule = sym (arms_counted t n d s (get_or out s 0) (edges s)) ∙ two_arms_lem t s rule

-- whoever is left is a start; the rows of the starts that are not left hold their arms, and the others hold nothing
pub record Rows (t : Shape) (left : ℕ) (table : List (List ℕ)) : Type 0 where
  pub wide : length table ≡ most_vertices
  pub inside : (u : ℕ) → has left u ≡ true → starts t u ≡ true
  pub held : (r i v : ℕ) → has (get_or (get_or table r []) i 0) v ≡ (not (has left r) && (starts t r && in_arm t r i v))

pub no_rows : (t : Shape) (w : ℕ) → AreStarts t w → Rows t w (replicate most_vertices (replicate 2 0))
no_rows t w are =
    record {
      wide = refl;
      inside = all_left t w are;
      held = λ r i v.
          ap (λ k. has k v) (all_empty 64 2 r i) ∙ has_zero v
          ∙ nowhere (starts t r) (in_arm t r i v) ∙ ap (λ b. not b && (starts t r && in_arm t r i v)) (sym (are r));
    }
  where
    nowhere : (a b : Bool) → false ≡ (not a && (a && b))
    nowhere true b = refl
    nowhere false b = refl

module _ {t : Shape} {left : ℕ} {table : List (List ℕ)} (before : Rows t left table) where
  pub row_more :
      {s after : ℕ} (pair : List ℕ) → s < most_vertices → Takes left s after → ((i : ℕ) → IsArm t s i (get_or pair i 0))
      → Rows t after (set table s pair)
  row_more {s} {after} pair low turn arms =
      record { wide = length-set table s pair ∙ before.wide; inside = still turn (starts t) before.inside; held = held }
    where
      held : (r i v : ℕ) → has (get_or (get_or (set table s pair) r []) i 0) v ≡ (not (has after r) && (starts t r && in_arm t r i v))
      held r i v =
          elim (decided (eqb r s)) [
            | inl e ↦
                let q = eqb-true r s e in
                ap (λ k. has (get_or (get_or (set table s pair) k []) i 0) v) q
                ∙ ap (λ row. has (get_or row i 0) v) (get_or-set_same table s pair [] (omega (arith, before.wide))) ∙ arms i v
                ∙ sym (ap₂ (λ a b. not a && (b && in_arm t s i v)) (passed turn) (before.inside s turn.member))
                ∙ ap (λ k. not (has after k) && (starts t k && in_arm t k i v)) (sym q)
            | inr e ↦
                let ne = eqb-false r s e in
                ap (λ row. has (get_or row i 0) v) (get_or-set_other table s r pair [] ne) ∙ before.held r i v
                ∙ ap (λ b. not b && (starts t r && in_arm t r i v)) (sym (stays turn r ne))
          ]

  pub all_rows : left ≡ 0 → ArmTable t table
  all_rows e r i v = before.held r i v ∙ ap (λ b. not b && (starts t r && in_arm t r i v)) (none_left e r)
