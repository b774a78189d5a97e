-- An arm that is entered from its start alone, found by a walk over its members: G6 by the words.
use Prim.Native.Nat.{ℕ, ◌^◌, ◌≤◌, ◌<◌}
use mathlib.Core.Path.{◌≡◌, sym, ◌∙◌, ap, ap₂, subst}
use mathlib.Core.Bool.{Bool, true, false, not, ◌&&◌, ◌||◌, and-true, and-false, or_assoc, or-false}
use mathlib.Core.Logic.{◌⊎◌, inl, inr}
use mathlib.Core.List.{List}
use native.Mathlib.Nat.{lt_trans, lt_of_lt_of_le, pos_of_ne-zero}
use lib.Dec.{eqb}
use lib.ListN.{get_or}
use borrow.Author.Tests.{eqb-true, eq-eqb, ne_eqb, not-true}
use Rattle.model.specs.Limits.{most_vertices}
use Rattle.model.specs.Range.{least}
use Rattle.model.specs.Graph.{Shape, size, edge, arms, arm_first, in_arm, shut, G6}
use Rattle.model.proofs.Ranges.{and_left, and_right, and_both, is_false, not_both, decided, implied, implies, every_at, every_of, every_two, any_found, least_lowest}
use Rattle.model.proofs.ArmFacts.{arm_below, arm_head}
use Rattle.vertices.specs.Members.{has}
use Rattle.vertices.proofs.Members.{has_zero, some}
use Rattle.graph.specs.Words.{Upward, Into, IsArm}

-- an edge from u to v may lead into the arm: it comes from the arm, or from s to the first
abbrev pub allowed : ℕ → ℕ → ℕ → ℕ → ℕ → Bool
allowed arm s first v u = has arm u || eqb u s && eqb v first

-- who may enter v: the arm, with s if v is the first
pub may :
    (arm s first v w : ℕ)
    → ((v ≡ first) × ((u : ℕ) → has w u ≡ (has arm u || eqb u s))) ⊎ ((v ≡ first → ⊥) × (w ≡ arm))
    → (u : ℕ) → has w u ≡ allowed arm s first v u
may arm s first v w way u =
    elim way [
      | inl y ↦
          y.1 u ∙ ap (λ b. has arm u || b) (sym (ap (λ b. eqb u s && b) (eq-eqb v first y.0) ∙ and-true (eqb u s)))
      | inr n ↦
          ap (λ x. has x u) n.1 ∙ sym (or-false (has arm u))
          ∙ ap (λ b. has arm u || b) (sym (ap (λ b. eqb u s && b) (ne_eqb v first n.0) ∙ and-false (eqb u s)))
    ]

-- every edge to v is allowed
abbrev pub Entered : List ℕ → ℕ → ℕ → ℕ → ℕ → Type 0
Entered into arm s first v = (u : ℕ) → has (get_or into v 0) u ≡ true → allowed arm s first v u ≡ true

-- whoever is left is of the arm, and to each of the arm that is not left every edge is allowed
pub record Passed (into : List ℕ) (arm s first left : ℕ) : Type 0 where
  pub inside : (v : ℕ) → has left v ≡ true → has arm v ≡ true
  pub done : (v : ℕ) → has arm v ≡ true → (has left v ≡ true) ⊎ Entered into arm s first v

module _ (into : List ℕ) (arm s first : ℕ) where
  pub begins : Passed into arm s first arm
  begins = record { inside = λ v h. h; done = λ v h. inl h }

  -- a turn takes v, to which every edge is allowed
  pub goes :
      (left v rest : ℕ) → Passed into arm s first left → ((u : ℕ) → has rest u ≡ (has left u && not (eqb u v)))
      → Entered into arm s first v → Passed into arm s first rest
  goes left v rest p others here =
      record {
        inside = λ u h. p.inside u (and_left (has left u) _ (sym (others u) ∙ h));
        done = λ u h.
            elim (p.done u h) [
              | inl l ↦
                  elim (decided (eqb u v)) [
                    | inl e ↦ inr (subst (Entered into arm s first) (sym (eqb-true u v e)) here)
                    | inr e ↦ inl (others u ∙ ap₂ (λ a b. a && not b) l e)
                  ]
              | inr r ↦ inr r
            ];
      }

  -- the others are those with an edge to v who may not enter it
  module _ (v w others : ℕ) (allow : (u : ℕ) → has w u ≡ allowed arm s first v u)
      (less : (u : ℕ) → has others u ≡ (has (get_or into v 0) u && not (has w u))) where
    pub entered : others ≡ 0 → Entered into arm s first v
    entered e u h =
        elim (decided (has w u)) [
          | inl m ↦ sym (allow u) ∙ m
          | inr m ↦
              absurd (not_both (has others u) (less u ∙ ap₂ (λ a b. a && not b) h m) (ap (λ x. has x u) e ∙ has_zero u))
        ]

    pub intruder :
        others < 2 ^ 64 → (others ≡ 0 → ⊥)
        → (u : ℕ) × (has (get_or into v 0) u ≡ true) × (allowed arm s first v u ≡ false)
    intruder fits n =
        let f = any_found 64 (has others) (some others fits (pos_of_ne-zero n)) in
        let both = sym (less f.0) ∙ f.2 in (
          f.0,
          and_left (has (get_or into v 0) f.0) _ both,
          sym (allow f.0) ∙ not-true (has w f.0) (and_right (has (get_or into v 0) f.0) _ both),
        )

  -- the answer of the words is the rule's own
  module _ (t : Shape) (n i : ℕ) (upward : Upward t n) (edges : Into t into) (is_arm : IsArm t s i arm)
      (lowest : first ≡ least 64 (has arm)) where
    head : (v : ℕ) → in_arm t s i v ≡ true → first ≡ arm_first t s i
    head v h =
        let entry = (arm_head t s i v h).0 in
        lowest
        ∙ least_lowest 64 (has arm) (arm_first t s i)
        (lt_of_lt_of_le (arm_below t s i (arm_first t s i) entry) (subst (λ k. k ≤ most_vertices) (sym upward.counted) upward.small))
        (is_arm (arm_first t s i) ∙ entry) (λ w m. (arm_head t s i w (sym (is_arm w) ∙ m)).1)

    rule : (v u : ℕ) → in_arm t s i v ≡ true → allowed arm s first v u ≡ (in_arm t s i u || eqb u s && eqb v (arm_first t s i))
    rule v u h = ap₂ (λ b x. b || eqb u s && eqb v x) (is_arm u) (head v h)

    pub shut_true : (left : ℕ) → Passed into arm s first left → left ≡ 0 → shut t s i ≡ true
    unfolding shut
    shut_true left p e =
        every_of (size t) _ (λ v _.
        every_of (size t) _ (λ u _.
        or_assoc (not (in_arm t s i v && edge t u v)) (in_arm t s i u) _
        ∙ implies (in_arm t s i v && edge t u v) _ (λ h.
        let hv = and_left (in_arm t s i v) (edge t u v) h in
        sym (rule v u hv)
        ∙ elim (p.done v (is_arm v ∙ hv)) [
          | inl l ↦ absurd (not_both (has left v) l (ap (λ x. has x v) e ∙ has_zero v))
          | inr here ↦ here u (edges u v ∙ and_right (in_arm t s i v) (edge t u v) h)
        ])))

    pub shut_false :
        (v : ℕ) → has arm v ≡ true → (u : ℕ) × (has (get_or into v 0) u ≡ true) × (allowed arm s first v u ≡ false)
        → shut t s i ≡ false
    unfolding shut
    shut_false v m f =
        let u = f.0 in
        let hv = sym (is_arm v) ∙ m in
        let hu = sym (edges u v) ∙ f.1 in
        let below = arm_below t s i v hv in
        is_false (shut t s i) (λ all.
        let row = every_at (size t) _ (every_at (size t) _ all v below) u (lt_trans (upward.up u v hu) below) in
        not_both (allowed arm s first v u)
        (rule v u hv
        ∙ implied (in_arm t s i v && edge t u v) _
        (sym (or_assoc (not (in_arm t s i v && edge t u v)) (in_arm t s i u) _) ∙ row)
        (and_both (in_arm t s i v) (edge t u v) hv hu))
        f.2)

-- two arms
pub shut_two : (t : Shape) (s : ℕ) → arms t s ≡ 2 → G6 t s ≡ (shut t s 0 && shut t s 1)
unfolding G6
shut_two t s = every_two (arms t s) (λ i. shut t s i)
