-- A walk over the starts of a graph that takes them one by one: each turn, and both ways out of one that goes on while a test holds.
use Prim.Native.Nat.{ℕ, ◌<◌}
use mathlib.Core.Path.{◌≡◌, refl, sym, ◌∙◌, ap, ap₂}
use mathlib.Core.Bool.{Bool, true, false, not, ◌&&◌, ◌||◌, and-true, and-false}
use mathlib.Core.Logic.{◌⊎◌, inl, inr}
use lib.Dec.{eqb}
use borrow.Author.Tests.{eqb-true, eqb-false, eq-eqb, ne_eqb}
use Rattle.model.specs.Limits.{most_vertices}
use Rattle.model.specs.Range.{every, least}
use Rattle.model.specs.Graph.{Shape, size, starts}
use Rattle.model.proofs.Ranges.{and_left, not_both, decided, implies, every_of, every_not}
use Rattle.model.proofs.ArmFacts.{start_below}
use Rattle.vertices.specs.Members.{has}
use Rattle.vertices.proofs.Members.{has_zero, rest_in}
use Rattle.graph.proofs.Taken.{taken}
use Rattle.shape.specs.Choices.{AreStarts}

-- a set without one member
pub record Takes (left v after : ℕ) : Type 0 where
  pub member : has left v ≡ true
  pub others : (u : ℕ) → has after u ≡ (has left u && not (eqb u v))

-- which is the lowest
pub takes :
    {left v after : ℕ} → has left v ≡ true → v ≡ least 64 (has left)
    → ((u : ℕ) → has after u ≡ (has left u && not (eqb u (least 64 (has left))))) → Takes left v after
takes {left} {v} {after} member e others = record { member = member; others = rest_in left v after e others }

module _ {left v after : ℕ} (turn : Takes left v after) where
  pub passed : has after v ≡ false
  passed = turn.others v ∙ ap (λ b. has left v && not b) (eq-eqb v v refl) ∙ and-false (has left v)

  pub stays : (u : ℕ) → (u ≡ v → ⊥) → has after u ≡ has left u
  stays u ne = turn.others u ∙ ap (λ b. has left u && not b) (ne_eqb u v ne) ∙ and-true (has left u)

  -- who is not left is the one taken, or was not left before
  pub gone : (u : ℕ) → has after u ≡ false → (u ≡ v) ⊎ (has left u ≡ false)
  gone u out =
      elim (decided (eqb u v)) [
        | inl e ↦ inl (eqb-true u v e)
        | inr e ↦ inr (sym (stays u (eqb-false u v e)) ∙ out)
      ]

  pub still : (p : ℕ → Bool) → ((u : ℕ) → has left u ≡ true → p u ≡ true) → (u : ℕ) → has after u ≡ true → p u ≡ true
  still p inside u h = inside u (and_left (has left u) _ (sym (turn.others u) ∙ h))

-- the vertex that a turn takes of a set of starts: it has a digit, is one of those left, and a start
pub record Begun (t : Shape) (left s : ℕ) : Type 0 where
  pub small : s < most_vertices
  pub member : has left s ≡ true
  pub start : starts t s ≡ true

pub begun :
    {t : Shape} {left s : ℕ} → (left ≡ 0 → ⊥) → s ≡ least 64 (has left) → (0 < left → s < most_vertices)
    → ((u : ℕ) → has left u ≡ true → starts t u ≡ true) → Begun t left s
begun {s = s} some lowest within inside =
    let v = taken some lowest within in record { small = v.small; member = v.member; start = inside s v.member }

-- nobody is left of an empty set
pub none_left : {left : ℕ} → left ≡ 0 → (u : ℕ) → has left u ≡ false
none_left e u = ap (λ w. has w u) e ∙ has_zero u

-- at first all the starts are left
module _ (t : Shape) (w : ℕ) (are : AreStarts t w) where
  pub all_left : (u : ℕ) → has w u ≡ true → starts t u ≡ true
  all_left u h = sym (are u) ∙ h

  pub none_passed : (u : ℕ) → starts t u ≡ true → has w u ≡ false → ⊥
  none_passed u h = not_both (has w u) (are u ∙ h)

-- whoever is left is a start, and p holds of the starts that are not left
pub record Passed (t : Shape) (p : ℕ → Bool) (left : ℕ) : Type 0 where
  pub inside : (u : ℕ) → has left u ≡ true → starts t u ≡ true
  pub kept : (u : ℕ) → starts t u ≡ true → has left u ≡ false → p u ≡ true

module _ (t : Shape) (p : ℕ → Bool) where
  pub passed_none : (w : ℕ) → AreStarts t w → Passed t p w
  passed_none w are = record { inside = all_left t w are; kept = λ u h out. absurd (none_passed t w are u h out) }

  pub not_passed : (v : ℕ) → starts t v ≡ true → p v ≡ false → false ≡ every (size t) (λ u. not (starts t u) || p u)
  not_passed v start h = sym (every_not (size t) _ v (start_below t v start) (ap₂ (λ a b. not a || b) start h))

module _ {t : Shape} {p : ℕ → Bool} {left : ℕ} (before : Passed t p left) where
  pub passed_more : {v after : ℕ} → Takes left v after → p v ≡ true → Passed t p after
  passed_more turn here =
      record {
        inside = still turn (starts t) before.inside;
        kept = λ u h out.
            elim (gone turn u out) [
              | inl e ↦ ap p e ∙ here
              | inr o ↦ before.kept u h o
            ];
      }

  pub passed_all : left ≡ 0 → true ≡ every (size t) (λ u. not (starts t u) || p u)
  passed_all e = sym (every_of (size t) _ (λ u _. implies (starts t u) (p u) (λ h. before.kept u h (none_left e u))))
