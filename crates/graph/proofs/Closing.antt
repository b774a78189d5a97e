-- Which vertices of an arm close it, found by a walk over its members, and G5 by them.
use Prim.Native.Nat.{ℕ, ◌≤◌, ◌<◌}
use mathlib.Core.Path.{◌≡◌, refl, sym, ◌∙◌, ap, ap₂, fun_ext}
use mathlib.Core.Bool.{Bool, true, false, not, ◌&&◌, ◌||◌, false≢true, beq, or_comm, or-false}
use mathlib.Core.Logic.{◌⊎◌, inl, inr}
use mathlib.Core.List.{List}
use native.Mathlib.Omega.{arith}
use lib.Dec.{eqb}
use lib.ListN.{get_or}
use borrow.Author.Tests.{eqb-true, eq-eqb, ne_eqb, not-true}
use Rattle.model.specs.Limits.{most_vertices}
use Rattle.model.specs.Range.{every, any, count}
use Rattle.model.specs.Graph.{Shape, size, mate, edge, arms, bare, in_arm, goes_on, closes, G3, G5}
use Rattle.model.proofs.Ranges.{and_left, and_right, and_first, and_second, any_below, count_below, every_at, every_two}
use Rattle.model.proofs.ArmFacts.{two_arms_lem, arm_below, stops}
use Rattle.vertices.specs.Members.{has, meets}
use Rattle.vertices.proofs.Members.{has_zero, same_word}
use Rattle.graph.specs.Words.{Upward, Into, OutOf, IsArm}

-- One turn of the walk at one vertex, which is left (l), is the one taken (e), is to be found (s), is found before the turn (b) and
-- after it (r): what is found or left to find stays the same.
turn :
    (l e s b r : Bool) → (e ≡ true → l ≡ true) → (e ≡ true → r ≡ (s || b)) → (e ≡ false → r ≡ b)
    → (l && not e && s || r) ≡ (l && s || b)
turn true true s b r held taken other = taken refl
turn false true s b r held taken other = absurd (false≢true (held refl))
turn true false s b r held taken other = ap (λ x. s || x) (other refl)
turn false false s b r held taken other = other refl

-- v has no edge to a vertex of the arm
abbrev pub halts : List ℕ → ℕ → ℕ → Bool
halts out arm v = not (meets (get_or out v 0) arm)

module _ (out : List ℕ) (arm : ℕ) where
  -- what is found, and what among those left is to be found
  abbrev among : ℕ → ℕ → ℕ → Bool
  among left last v = has left v && halts out arm v || has last v

  -- together they are all there is to find
  abbrev pub Found : ℕ → ℕ → Type 0
  Found left last = (v : ℕ) → among left last v ≡ (has arm v && halts out arm v)

  pub begins : Found arm 0
  begins v = ap (λ b. has arm v && halts out arm v || b) (has_zero v) ∙ or-false (has arm v && halts out arm v)

  pub done : (left last : ℕ) → Found left last → left ≡ 0 → (v : ℕ) → has last v ≡ (has arm v && halts out arm v)
  done left last found e v = ap (λ b. b && halts out arm v || has last v) (sym (ap (λ w. has w v) e ∙ has_zero v)) ∙ found v

  -- a turn takes v, one of those left, and puts it to those found if it is to be found
  pub goes :
      (left last v rest next : ℕ) → Found left last → has left v ≡ true
      → ((u : ℕ) → has rest u ≡ (has left u && not (eqb u v)))
      → ((halts out arm v ≡ true) × ((u : ℕ) → has next u ≡ (has last u || eqb u v))) ⊎ ((halts out arm v ≡ false) × (next ≡ last))
      → Found rest next
  goes left last v rest next found held others way u =
      ap (λ b. b && halts out arm u || has next u) (others u)
      ∙ turn (has left u) (eqb u v) (halts out arm u) (has last u) (has next u) (λ e. ap (has left) (eqb-true u v e) ∙ held)
      (λ e.
      elim way [
        | inl y ↦
            y.1 u ∙ ap (λ b. has last u || b) e ∙ or_comm (has last u) true
            ∙ ap (λ b. b || has last u) (sym (ap (halts out arm) (eqb-true u v e) ∙ y.0))
        | inr n ↦
            ap (λ w. has w u) n.1 ∙ ap (λ b. b || has last u) (sym (ap (halts out arm) (eqb-true u v e) ∙ n.0))
      ])
      (λ e.
      elim way [
        | inl y ↦ y.1 u ∙ ap (λ b. has last u || b) e ∙ or-false (has last u)
        | inr n ↦ ap (λ w. has w u) n.1
      ])
      ∙ found u

-- two sets of an arm's vertices are the same where their tests agree on the arm
agree : (a b c : Bool) → beq (a && b) (a && c) ≡ (not a || beq b c)
agree true b c = refl
agree false b c = refl

-- the answer of the words is the rule's own
module _ (t : Shape) (n s i : ℕ) (out : List ℕ) (arm : ℕ) (upward : Upward t n) (edges : OutOf t out) (is_arm : IsArm t s i arm) where
  within : size t ≤ most_vertices
  within = omega (arith, upward.counted, upward.small)

  -- a test of an arm's vertices holds of none from the size on
  below : (b : Bool) (v : ℕ) → (in_arm t s i v && b) ≡ true → v < size t
  below b v h = arm_below t s i v (and_left (in_arm t s i v) b h)

  meeting : (v : ℕ) → meets (get_or out v 0) arm ≡ goes_on t s i v
  unfolding meets goes_on
  meeting v =
      ap (any 64) (fun_ext (λ u. ap₂ ◌&&◌ (edges v u) (is_arm u)))
      ∙ any_below (size t) 64 (λ u. edge t v u && in_arm t s i u) within
      (λ u h. arm_below t s i u (and_right (edge t v u) (in_arm t s i u) h))

  module _ (last many : ℕ) (is_last : (v : ℕ) → has last v ≡ (has arm v && halts out arm v))
      (counted : many ≡ count 64 (has last)) where
    last_is : (v : ℕ) → has last v ≡ stops t s i v
    last_is v = is_last v ∙ ap₂ (λ a b. a && not b) (is_arm v) (meeting v)

    once : (b : Bool) → eqb many 1 ≡ b → eqb (count (size t) (stops t s i)) 1 ≡ b
    once b e =
        ap (λ k. eqb k 1)
        (sym (counted ∙ ap (count 64) (fun_ext last_is) ∙ count_below (size t) 64 (stops t s i) within (λ v. below _ v))) ∙ e

    pub closed :
        (before both : ℕ) → ((v : ℕ) → has before v ≡ edge t v (mate t s)) → ((v : ℕ) → has both v ≡ (has arm v && has before v))
        → many ≡ 1 → eqb both last ≡ closes t s i
    unfolding closes
    closed before both ends is_both one =
        let leads : (v : ℕ) → has both v ≡ (in_arm t s i v && edge t v (mate t s)) =
        λ v. is_both v ∙ ap₂ ◌&&◌ (is_arm v) (ends v) in
        same_word (size t) both last (λ v h. below _ v (sym (leads v) ∙ h)) (λ v h. below _ v (sym (last_is v) ∙ h))
        ∙ ap (every (size t))
        (fun_ext (λ v. ap₂ beq (leads v) (last_is v) ∙ agree (in_arm t s i v) (edge t v (mate t s)) (not (goes_on t s i v))))
        ∙ and_second (eqb (count (size t) (stops t s i)) 1) _ (once true (eq-eqb many 1 one))

    pub unclosed : (many ≡ 1 → ⊥) → eqb many 1 ≡ closes t s i
    unfolding closes
    unclosed other =
        let fails = ne_eqb many 1 other in
        fails ∙ sym (once false fails) ∙ and_first (eqb (count (size t) (stops t s i)) 1) _ (once false fails)

-- the word at the end holds the vertices that lead to it
pub end_in :
    (t : Shape) (s : ℕ) (into : List ℕ) (end : ℕ) → Into t into → mate t s ≡ end
    → (v : ℕ) → has (get_or into end 0) v ≡ edge t v (mate t s)
end_in t s into end edges e v = edges v end ∙ ap (edge t v) (sym e)

-- two arms, none bare
pub closes_two : (t : Shape) (s : ℕ) → G3 t s ≡ true → G5 t s ≡ (closes t s 0 && closes t s 1)
unfolding G3 G5
closes_two t s rule =
    let both = and_left (eqb (arms t s) 2 && every (arms t s) (λ i. not (bare t s i))) _ rule in
    let two = two_arms_lem t s rule in
    let full : (i : ℕ) → i < arms t s → (bare t s i || closes t s i) ≡ closes t s i = λ i l.
    ap (λ b. b || closes t s i) (not-true (bare t s i) (every_at (arms t s) _ (and_right (eqb (arms t s) 2) _ both) i l)) in
    every_two (arms t s) (λ i. bare t s i || closes t s i) two ∙ ap₂ ◌&&◌ (full 0 (omega arith)) (full 1 (omega arith))
