-- The walk over words of vertices: one turn takes the lowest vertex with its arms, and leaves fewer vertices and the walk over the others.
use Prim.Native.Nat.{ℕ, zero, suc, ◌+◌, ◌-◌, ◌≤◌, ◌<◌, max}
use mathlib.Core.Path.{◌≡◌, refl, sym, ◌∙◌, ap, ap₂, subst}
use mathlib.Core.Bool.{Bool, true, false, cond, not, ◌&&◌, ◌||◌, and-true}
use mathlib.Core.List.{List}
use mathlib.Core.Logic.{inl, inr}
use native.Mathlib.Nat.{eq-or-lt_of_le}
use native.Mathlib.Omega.{arith}
use lib.Dec.{eqb}
use borrow.Author.Tests.{eq-eqb, ne_eqb, not-true}
use Rattle.model.specs.Limits.{most_vertices}
use Rattle.model.specs.Range.{count, least}
use Rattle.model.proofs.Ranges.{and_left, and_right, is_false, not_both, neither, least_before, count_fewer}
use Rattle.vertices.specs.Members.{has}
use Rattle.vertices.proofs.Members.{has_zero, none, lowest_in}
use Rattle.curve.specs.Sheets.{Laid}
use Rattle.curve.specs.Tables.{arm_of, outside, word_walk, arm_sum}

-- how many vertices a word holds
unfoldable pub member_count : ℕ → ℕ
member_count w = count 64 (has w)

-- v is the lowest vertex of the word
pub record Lowest (w v : ℕ) : Type 0 where
  pub small : v < most_vertices
  pub held : has w v ≡ true
  pub first : (u : ℕ) → u < v → has w u ≡ false

pub lowest_of : (w v : ℕ) → v ≡ least 64 (has w) → v < most_vertices → Lowest w v
lowest_of w v e l =
    record {
      small = l;
      held = lowest_in w v e l;
      first = λ u before. least_before 64 (has w) u (subst (λ k. u < k) e before);
    }

-- a vertex with no arms
abbrev pub Bare : List (List ℕ) → ℕ → Type 0
Bare arms v = (arm_of arms v 0 ≡ 0) × (arm_of arms v 1 ≡ 0)

-- the word of both arms of v
abbrev pub Both : List (List ℕ) → ℕ → ℕ → Type 0
Both arms v both = (u : ℕ) → has both u ≡ (has (arm_of arms v 0) u || has (arm_of arms v 1) u)

-- where it is empty, so is each arm
pub bare_of : (arms : List (List ℕ)) (v both : ℕ) → Both arms v both → both ≡ 0 → Bare arms v
bare_of arms v both is_both e =
    let out : (u : ℕ) → (has (arm_of arms v 0) u ≡ false) × (has (arm_of arms v 1) u ≡ false) = λ u.
    neither (has (arm_of arms v 0) u) (has (arm_of arms v 1) u) (sym (is_both u) ∙ ap (λ w. has w u) e ∙ has_zero u) in
    (none (arm_of arms v 0) (λ u. (out u).0), none (arm_of arms v 1) (λ u. (out u).1))

-- in neither of two arms
pub in_neither : (s a b : Bool) → (s && not a && not b) ≡ (s && not (a || b))
in_neither true true b = refl
in_neither true false b = refl
in_neither false a b = refl

-- the word that a turn leaves: the others, without those in the arms of v
pub record Leaves (arms : List (List ℕ)) (w v next : ℕ) : Type 0 where
  pub members : (u : ℕ) → has next u ≡ outside arms v (λ y. has w y && not (eqb y v)) u

module _ (arms : List (List ℕ)) (w v rest : ℕ) (others : (u : ℕ) → has rest u ≡ (has w u && not (eqb u v))) where
  pub leaves_all : Bare arms v → Leaves arms w v rest
  leaves_all bare =
      let kept : (a : ℕ) → a ≡ 0 → (b : Bool) (u : ℕ) → b ≡ (b && not (has a u)) = λ a e b u.
      sym (ap (λ h. b && not h) (ap (λ k. has k u) e ∙ has_zero u) ∙ and-true b) in
      record { members = λ u. others u ∙ kept (arm_of arms v 0) bare.0 _ u ∙ kept (arm_of arms v 1) bare.1 _ u }

  pub leaves_outside :
      (both next : ℕ) → Both arms v both → ((u : ℕ) → has next u ≡ (has rest u && not (has both u))) → Leaves arms w v next
  leaves_outside both next is_both left =
      record {
        members = λ u.
            left u ∙ ap₂ (λ s b. s && not b) (others u) (is_both u)
            ∙ sym (in_neither (has w u && not (eqb u v)) (has (arm_of arms v 0) u) (has (arm_of arms v 1) u));
      }

module _ {arms : List (List ℕ)} {w v next : ℕ} (lowest : Lowest w v) (leaves : Leaves arms w v next) where
  left_other : (u : ℕ) → has next u ≡ true → (has w u && not (eqb u v)) ≡ true
  left_other u h =
      and_left (has w u && not (eqb u v)) _
      (and_left (has w u && not (eqb u v) && not (has (arm_of arms v 0) u)) _ (sym (leaves.members u) ∙ h))

  pub left_in : (u : ℕ) → has next u ≡ true → has w u ≡ true
  left_in u h = and_left (has w u) _ (left_other u h)

  left_out : (u : ℕ) → u ≤ v → has next u ≡ false
  left_out u l =
      is_false (has next u) (λ h.
      elim (eq-or-lt_of_le l) [
        | inl e ↦ not_both (eqb u v) (eq-eqb u v e) (not-true (eqb u v) (and_right (has w u) _ (left_other u h)))
        | inr lt ↦ not_both (has w u) (left_in u h) (lowest.first u lt)
      ])

  left_after : (u : ℕ) → v < u → has next u ≡ outside arms v (has w) u
  left_after u l =
      leaves.members u
      ∙ ap (λ b. b && not (has (arm_of arms v 0) u) && not (has (arm_of arms v 1) u))
      (ap (λ b. has w u && not b) (ne_eqb u v (λ e. omega arith)) ∙ and-true (has w u))

  pub fewer : member_count next < member_count w
  unfolding member_count
  fewer = count_fewer 64 (has next) (has w) v lowest.small (left_out v (omega arith)) lowest.held left_in

-- One turn of the walk

module _ (arms : List (List ℕ)) (f : ℕ → ℕ) where
  -- The step at vertex v, with `left` vertices after it.
  module _ (v left : ℕ) (at : v + suc left ≡ most_vertices) (set : ℕ → Bool) where
    walk_step :
        let larger = max (word_walk arms f left (has (arm_of arms v 0))) (word_walk arms f left (has (arm_of arms v 1))) in
        word_walk arms f (suc left) set
        ≡ cond (set v) (f v + larger + word_walk arms f left (outside arms v set)) (word_walk arms f left set)
    unfolding word_walk
    walk_step = let here : most_vertices - suc left ≡ v = omega arith in rw here

    pub walk_here :
        set v ≡ true
        → word_walk arms f (suc left) set
        ≡ f v + max (word_walk arms f left (has (arm_of arms v 0))) (word_walk arms f left (has (arm_of arms v 1)))
        + word_walk arms f left (outside arms v set)
    walk_here held = rw (walk_step, held)

    pub walk_past : set v ≡ false → word_walk arms f (suc left) set ≡ word_walk arms f left set
    walk_past out = rw (walk_step, out)

  -- sets with the same vertices among the last
  alike :
      (left : ℕ) → left ≤ most_vertices → (a b : ℕ → Bool) → ((u : ℕ) → most_vertices ≤ u + left → a u ≡ b u)
      → word_walk arms f left a ≡ word_walk arms f left b
  unfolding word_walk
  alike zero le a b same = refl
  alike (suc left) le a b same =
      let v = 63 - left in
      let at : v + suc left ≡ most_vertices = omega arith in
      let here = same v (omega arith) in
      let past = alike left (omega arith) a b (λ u l. same u (omega arith)) in
      let others =
      alike left (omega arith) (outside arms v a) (outside arms v b)
      (λ u l. ap (λ x. x && not (has (arm_of arms v 0) u) && not (has (arm_of arms v 1) u)) (same u (omega arith))) in
      cc (walk_step v left at a, walk_step v left at b)

  -- vertices before the first of the set
  skip :
      (m left : ℕ) → left ≤ m → m ≤ most_vertices → (set : ℕ → Bool) → ((u : ℕ) → u + left < most_vertices → set u ≡ false)
      → word_walk arms f m set ≡ word_walk arms f left set
  skip zero left le fits set low = let e : 0 ≡ left = omega arith in ap (λ k. word_walk arms f k set) e
  skip (suc m) left le fits set low =
      elim (eq-or-lt_of_le le) [
        | inl e ↦ ap (λ k. word_walk arms f k set) (sym e)
        | inr lt ↦
            walk_past (63 - m) m (omega arith) set (low (63 - m) (omega arith))
            ∙ skip m left (omega arith) (omega arith) set low
      ]

  -- no vertex, no sum
  pub sum_empty : arm_sum arms f 0 ≡ 0
  unfolding arm_sum word_walk
  sum_empty = skip most_vertices 0 (omega arith) (omega arith) (has 0) (λ u _. has_zero u)

  -- a word with no vertex up to v walks over those after it
  sum_after :
      (w v left : ℕ) → v + suc left ≡ most_vertices → ((u : ℕ) → u ≤ v → has w u ≡ false) → arm_sum arms f w ≡ word_walk arms f left (has w)
  unfolding arm_sum
  sum_after w v left at low = skip most_vertices left (omega arith) (omega arith) (has w) (λ u l. low u (omega arith))

  -- the larger of the sums over the arms of v
  abbrev pub larger : ℕ → ℕ
  larger v = max (arm_sum arms f (arm_of arms v 0)) (arm_sum arms f (arm_of arms v 1))

  -- a turn takes the lowest vertex and the larger of its arms
  parted :
      Laid arms → (w v left : ℕ) → v + suc left ≡ most_vertices → Lowest w v
      → arm_sum arms f w ≡ f v + larger v + word_walk arms f left (outside arms v (has w))
  unfolding arm_sum
  parted laid w v left at lowest =
      let arm : (i : ℕ) → arm_sum arms f (arm_of arms v i) ≡ word_walk arms f left (has (arm_of arms v i)) = λ i.
      sum_after (arm_of arms v i) v left at
      (λ u l. is_false (has (arm_of arms v i) u) (λ h. omega (arith, laid.above v i u h))) in
      skip most_vertices (suc left) (omega arith) (omega arith) (has w) (λ u l. lowest.first u (omega arith))
      ∙ walk_here v left at (has w) lowest.held
      ∙ ap₂ (λ a b. f v + max a b + word_walk arms f left (outside arms v (has w))) (sym (arm 0)) (sym (arm 1))

  module _ (laid : Laid arms) {w v : ℕ} (lowest : Lowest w v) where
    pub taken : f v + larger v ≤ arm_sum arms f w
    taken = let small = lowest.small in omega (arith, parted laid w v (63 - v) (omega arith) lowest)

    pub turned : {next : ℕ} → Leaves arms w v next → arm_sum arms f w ≡ f v + larger v + arm_sum arms f next
    turned {next} leaves =
        let small = lowest.small in
        let left = 63 - v in
        parted laid w v left (omega arith) lowest
        ∙ ap (λ k. f v + larger v + k)
        (sym (sum_after next v left (omega arith) (left_out lowest leaves)
        ∙ alike left (omega arith) (has next) (outside arms v (has w)) (λ u l. left_after lowest leaves u (omega arith))))
