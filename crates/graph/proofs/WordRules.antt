-- The rules G1, G3 and G4 over the words that hold a graph's edges and arms.
use Prim.Native.Nat.{ℕ, ◌+◌, ◌-◌, ◌<◌}
use mathlib.Core.Path.{◌≡◌, refl, sym, ◌∙◌, ap, ap₂, subst, fun_ext}
use mathlib.Core.Bool.{Bool, true, false, not, ◌&&◌, ◌||◌, and_comm, and-false}
use mathlib.Core.Logic.{inl, inr}
use native.Mathlib.Omega.{arith}
use lib.Dec.{eqb}
use lib.ListN.{get_or}
use borrow.Author.Tests.{eqb-true, eq-eqb, ne_eqb}
use Rattle.model.specs.Range.{every, any, count}
use Rattle.model.specs.Graph.{Shape, size, mate, edge, arms, arm_first, bare, in_arm, G1, G3, G4}
use Rattle.model.proofs.Ranges.{and_left, and_both, or_left, or_right, is_false, not_both, decided, same_test, every_of, every_ext, every_more, every_not, not_any, any_below, count_below}
use Rattle.model.proofs.ArmFacts.{first_edge, rank_first, rank_counted, arm_below}
use Rattle.vertices.specs.Members.{has, meets}
use Rattle.vertices.proofs.Members.{filled_below}
use Rattle.graph.specs.declared.links.Links.{Links}
use Rattle.graph.specs.Words.{Upward, LinksOf, IsArm}

-- v is the vertex k, which needs no neighbour, or its word holds one
abbrev joined : ℕ → ℕ → ℕ → Bool
joined v k w = eqb v k || not (eqb w 0)

pub joined_alone : (v k w : ℕ) → v ≡ k → joined v k w ≡ true
joined_alone v k w e = or_left (eqb v k) (not (eqb w 0)) (eq-eqb v k e)

pub joined_some : (v k w : ℕ) → eqb w 0 ≡ false → joined v k w ≡ true
joined_some v k w h = or_right (eqb v k) (not (eqb w 0)) (ap not h)

joined_none : (v k w : ℕ) → (v ≡ k → ⊥) → eqb w 0 ≡ true → joined v k w ≡ false
joined_none v k w n h = ap₂ (λ a b. a || not b) (ne_eqb v k n) h

-- the vertex v of n has an edge in unless it is the first, and an edge out unless it is the last
unfoldable pub linked : Links → ℕ → ℕ → Bool
linked links n v = joined v 0 (get_or links.into v 0) && joined (v + 1) n (get_or links.out v 0)

module _ (links : Links) (n v : ℕ) where
  pub linked_more :
      every v (linked links n) ≡ true → joined v 0 (get_or links.into v 0) ≡ true → joined (v + 1) n (get_or links.out v 0) ≡ true
      → every (v + 1) (linked links n) ≡ true
  unfolding linked
  linked_more before i o =
      every_more v (linked links n) before (and_both (joined v 0 (get_or links.into v 0)) _ i o)

  pub none_in : (v ≡ 0 → ⊥) → eqb (get_or links.into v 0) 0 ≡ true → linked links n v ≡ false
  unfolding linked
  none_in other h = ap (λ b. b && joined (v + 1) n (get_or links.out v 0)) (joined_none v 0 (get_or links.into v 0) other h)

  pub none_out : (v + 1 ≡ n → ⊥) → eqb (get_or links.out v 0) 0 ≡ true → linked links n v ≡ false
  unfolding linked
  none_out other h =
      ap (λ b. joined v 0 (get_or links.into v 0) && b) (joined_none (v + 1) n (get_or links.out v 0) other h)
      ∙ and-false (joined v 0 (get_or links.into v 0))

-- the loop's test for the last vertex is the rule's
last_vertex : (n u : ℕ) → u < n → eqb (u + 1) n ≡ eqb u (n - 1)
last_vertex n u lt =
    same_test (eqb (u + 1) n) (eqb u (n - 1))
    (λ h. eq-eqb u (n - 1) (omega (arith, eqb-true (u + 1) n h)))
    (λ h. eq-eqb (u + 1) n (omega (arith, eqb-true u (n - 1) h)))

module _ (t : Shape) (n : ℕ) (d : Upward t n) where
  -- a word that holds vertices of the graph: whether it holds one, and how many

  filled_by :
      (w : ℕ) (p : ℕ → Bool) → ((v : ℕ) → has w v ≡ p v) → ((v : ℕ) → p v ≡ true → v < n)
      → not (eqb w 0) ≡ any (size t) p
  filled_by w p e low =
      filled_below n w (λ v h. low v (sym (e v) ∙ h)) ∙ ap₂ any (sym d.counted) (fun_ext e)

  counted_by :
      (w : ℕ) (p : ℕ → Bool) → ((v : ℕ) → has w v ≡ p v) → ((v : ℕ) → p v ≡ true → v < n)
      → count 64 (has w) ≡ count (size t) p
  counted_by w p e low =
      ap (count 64) (fun_ext e) ∙ count_below n 64 p d.small low ∙ ap (λ k. count k p) (sym d.counted)

  into_below : (v u : ℕ) → edge t u v ≡ true → u < n
  into_below v u h = omega (arith, d.up u v h, d.inside u v h)

  -- G1

  pub g1_words : (links : Links) → LinksOf t links → every n (linked links n) ≡ G1 t
  unfolding G1 linked
  g1_words links l =
      every_ext n (linked links n) rule same ∙ ap (λ k. every k rule) (sym d.counted)
    where
      rule : ℕ → Bool
      rule v = (eqb v 0 || any (size t) (λ u. edge t u v)) && (eqb v (size t - 1) || any (size t) (λ u. edge t v u))

      same : (v : ℕ) → v < n → linked links n v ≡ rule v
      same v lt =
          ap₂ (λ a b. (eqb v 0 || a) && b) (filled_by (get_or links.into v 0) (λ u. edge t u v) (λ u. l.into u v) (into_below v))
          (ap₂ (λ a b. a || b) (last_vertex n v lt ∙ ap (λ k. eqb v (k - 1)) (sym d.counted))
          (filled_by (get_or links.out v 0) (edge t v) (l.out v) (d.inside v)))

  -- one vertex that is not linked breaks the rule
  pub g1_breaks : (links : Links) → LinksOf t links → (v : ℕ) → v < n → linked links n v ≡ false → false ≡ G1 t
  g1_breaks links l v lt h = sym (every_not n (linked links n) v lt h) ∙ g1_words links l

  module _ (s : ℕ) where
    -- G3

    pub arms_counted : (w : ℕ) → ((v : ℕ) → has w v ≡ edge t s v) → arms t s ≡ count 64 (has w)
    unfolding arms
    arms_counted w e = sym (counted_by w (edge t s) e (d.inside s))

    -- no arm is bare just where the start has no edge to the end
    none_bare : every (arms t s) (λ i. not (bare t s i)) ≡ not (edge t s (mate t s))
    unfolding bare
    none_bare =
        elim (decided (edge t s (mate t s))) [
          | inl h ↦
              let below : mate t s < size t = omega (arith, d.inside s (mate t s) h, d.counted) in
              every_not (arms t s) (λ i. not (bare t s i)) (count (mate t s) (edge t s)) (rank_counted t s (mate t s) below h)
              (ap not (eq-eqb _ (mate t s) (rank_first t s (mate t s) below h)))
              ∙ ap not (sym h)
          | inr h ↦
              every_of (arms t s) (λ i. not (bare t s i))
              (λ i lt.
              ap not
              (is_false (bare t s i)
              (λ b.
              not_both (edge t s (mate t s))
              (subst (λ v. edge t s v ≡ true) (eqb-true (arm_first t s i) (mate t s) b) (first_edge t s i lt)) h)))
              ∙ ap not (sym h)
        ]

    pub g3_words :
        (w b end : ℕ) → mate t s ≡ end → ((v : ℕ) → has w v ≡ edge t s v) → ((u : ℕ) → has b u ≡ edge t u end)
        → (eqb (count 64 (has w)) 2 && not (has w end) && eqb (count 64 (has b)) 2) ≡ G3 t s
    unfolding G3
    g3_words w b end m e f =
        ap₂ (λ x y. x && y)
        (ap₂ (λ k x. eqb k 2 && x) (sym (arms_counted w e)) (ap not (e end ∙ ap (edge t s) (sym m)) ∙ sym none_bare))
        (ap (λ k. eqb k 2)
        (counted_by b (λ u. edge t u (mate t s)) (λ u. f u ∙ ap (edge t u) (sym m)) (into_below (mate t s))))

    -- G4

    pub g4_words : (a b : ℕ) → arms t s ≡ 2 → IsArm t s 0 a → IsArm t s 1 b → not (meets a b) ≡ G4 t s
    unfolding G4 meets
    g4_words a b two ia ib = apart ∙ twice (share 0 1) (share 1 0) swap ∙ rw two
      where
        share : ℕ → ℕ → Bool
        share i j = every (size t) (λ v. not (in_arm t s i v && in_arm t s j v))

        both : ℕ → Bool
        both v = in_arm t s 0 v && in_arm t s 1 v

        apart : not (meets a b) ≡ share 0 1
        apart =
            ap not
            (ap (any 64) (fun_ext (λ v. ap₂ (λ x y. x && y) (ia v) (ib v)))
            ∙ any_below (size t) 64 both (omega (arith, d.counted, d.small))
            (λ v h. arm_below t s 0 v (and_left (in_arm t s 0 v) (in_arm t s 1 v) h)))
            ∙ not_any (size t) both

        swap : share 0 1 ≡ share 1 0
        swap = ap (every (size t)) (fun_ext (λ v. ap not (and_comm (in_arm t s 0 v) (in_arm t s 1 v))))

        twice : (x y : Bool) → x ≡ y → x ≡ (x && (y && true))
        twice true y h = h ∙ and_comm true y
        twice false y h = refl
