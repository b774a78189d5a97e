-- The arms of a choice: what the search along the edges finds, and what the records and the rules G1 to G6 say of a task's arms.
use Prim.Native.Nat.{ℕ, suc, ◌-◌, ◌≤◌, ◌<◌}
use mathlib.Core.Path.{◌≡◌, refl, sym, ◌∙◌, ap, subst}
use mathlib.Core.Bool.{Bool, true, not, ◌&&◌, ◌||◌, false≢true}
use mathlib.Core.Logic.{◌⊎◌, inl, inr, ◌↔◌}
use native.Mathlib.Omega.{arith}
use lib.Dec.{eqb, ltb}
use lib.ListN.{get_or-eq_default}
use borrow.Author.Tests.{ltb-true, ltb-false, eqb-true, not-true}
use Rattle.model.specs.Range.{every, any, count}
use Rattle.model.specs.Graph.{Shape, size, starts, ends, mate, edge, arms, arm_first, bare, in_arm, goes_on, G1, pairs, G2, G3, G4, closes, G5, shut, G6, keeps_rules}
use Rattle.model.proofs.Ranges.{count_found, count_rises, count_sole, and_left, and_right, and_both, or_cases, not_both, decided, implied, beq_true, every_at, any_found, least_has, least_ranked}
use Rattle.model.proofs.Reached.{Route, found_below, found_end, found_from, found_next, found_first, found_route, route_found}
use Rattle.model.proofs.Arms.{Drawn, Closing, Arms}

-- Arms

module _ (t : Shape) where
  pub start_below : (s : ℕ) → starts t s ≡ true → s < size t
  start_below s h =
      elim (decided (ltb s (size t))) [
        | inl b ↦ ltb-true s (size t) b
        | inr b ↦ absurd (false≢true (ap (λ r. eqb r 1) (sym (get_or-eq_default t.roles 0 (ltb-false s (size t) b))) ∙ h))
      ]

  -- G3 says that there are two arms
  pub two_arms_lem : (s : ℕ) → G3 t s ≡ true → arms t s ≡ 2
  unfolding G3
  two_arms_lem s rule =
      let both = and_left (eqb (arms t s) 2 && every (arms t s) (λ i. not (bare t s i))) _ rule in
      eqb-true (arms t s) 2 (and_left (eqb (arms t s) 2) _ both)

  -- s has an edge to v, and i edges to lower ones
  abbrev ranked : ℕ → ℕ → ℕ → Bool
  ranked s i v = edge t s v && eqb (count v (λ u. edge t s u)) i

  -- each vertex to which the start has an edge is the first of the arm of its rank
  pub rank_first : (s v : ℕ) → v < size t → edge t s v ≡ true → arm_first t s (count v (edge t s)) ≡ v
  unfolding arm_first
  rank_first s = least_ranked (size t) (edge t s)

  pub rank_counted : (s v : ℕ) → v < size t → edge t s v ≡ true → count v (edge t s) < arms t s
  unfolding arms
  rank_counted s = count_rises (size t) (edge t s)

  pub first_edge : (s i : ℕ) → i < arms t s → edge t s (arm_first t s i) ≡ true
  unfolding arms
  first_edge s i lt =
      let f = count_found (size t) (edge t s) i lt in
      subst (λ v. edge t s v ≡ true) (sym (rank_first s f.0 f.1 f.2) ∙ ap (arm_first t s) f.3) f.2

  -- an arm whose first vertex is one of the task's is one of those counted
  pub first_counted : (s i : ℕ) → arm_first t s i < size t → i < arms t s
  unfolding arm_first arms
  first_counted s i lt =
      let h = least_has (size t) (ranked s i) lt in
      let rank = eqb-true _ i (and_right (edge t s (arm_first t s i)) _ h) in
      omega (arith, count_rises (size t) (λ u. edge t s u) (arm_first t s i) lt (and_left (edge t s (arm_first t s i)) _ h))

  pub arm_below : (s i v : ℕ) → in_arm t s i v ≡ true → v < size t
  unfolding in_arm
  arm_below s i v h = found_below (edge t) (arm_first t s i) (mate t s) (size t) v h

  arm_end : (s i v : ℕ) → in_arm t s i v ≡ true → v ≡ mate t s → ⊥
  unfolding in_arm
  arm_end s i v h = found_end (edge t) (arm_first t s i) (mate t s) (size t) v h

  -- an arm with a vertex holds its first, and that is the lowest
  pub arm_head : (s i v : ℕ) → in_arm t s i v ≡ true → (in_arm t s i (arm_first t s i) ≡ true) × (arm_first t s i ≤ v)
  unfolding in_arm
  arm_head s i v h = found_first (edge t) (arm_first t s i) (mate t s) (size t) v h

  pub arm_counted : (s i v : ℕ) → in_arm t s i v ≡ true → i < arms t s
  arm_counted s i v h = first_counted s i (omega (arith, arm_head s i v h, arm_below s i v h))

  arm_entered :
      (s i v : ℕ) → in_arm t s i v ≡ true → (v ≡ arm_first t s i) ⊎ ((u : ℕ) × (in_arm t s i u ≡ true) × (edge t u v ≡ true))
  unfolding in_arm
  arm_entered s i v h =
      elim (found_from (edge t) (arm_first t s i) (mate t s) (size t) v h) [
        | inl q ↦ inl q
        | inr f ↦ inr (f.0, f.1, f.2)
      ]

  -- An arm with no vertices closes at the start.
  closing_bare : (s i : ℕ) → i < arms t s → bare t s i ≡ true → Closing t s i
  unfolding bare
  closing_bare s i lt b =
      let first = eqb-true (arm_first t s i) (mate t s) b in
      let none : (v : ℕ) → in_arm t s i v ≡ true → ⊥ = λ v h. arm_end s i (arm_first t s i) (arm_head s i v h).0 first in
      record {
        at = s;
        leads = subst (λ v. edge t s v ≡ true) first (first_edge s i lt);
        stands = inr (refl, b);
        sole = λ v h _. absurd (none v h);
        goes = λ v h. absurd (none v h);
      }

  -- v is in arm i and has no edge to another vertex of it
  abbrev pub stops : ℕ → ℕ → ℕ → Bool
  stops s i v = in_arm t s i v && not (goes_on t s i v)

  -- An arm in which one vertex stops, and just where an edge leads to the end, closes at that vertex.
  closing_full :
      (s i : ℕ) → count (size t) (stops s i) ≡ 1
      → ((v : ℕ) → in_arm t s i v ≡ true → edge t v (mate t s) ≡ not (goes_on t s i v)) → Closing t s i
  unfolding goes_on
  closing_full s i once leads =
      let f = count_found (size t) (stops s i) 0 (omega arith) in
      let stands = and_left (in_arm t s i f.0) _ f.2 in
      let same : (v : ℕ) → in_arm t s i v ≡ true → not (goes_on t s i v) ≡ true → v ≡ f.0 = λ v h n.
      count_sole (size t) (stops s i) once v f.0 (arm_below s i v h) f.1 (and_both (in_arm t s i v) _ h n) f.2 in
      record {
        at = f.0;
        leads = leads f.0 stands ∙ and_right (in_arm t s i f.0) _ f.2;
        stands = inl stands;
        sole = λ v h j. same v h (sym (leads v h) ∙ j);
        goes = λ v h.
            elim (decided (goes_on t s i v)) [
              | inl b ↦
                  let g = any_found (size t) (λ u. edge t v u && in_arm t s i u) b in
                  inr (g.0, and_left (edge t v g.0) _ g.2, and_right (edge t v g.0) _ g.2)
              | inr b ↦ inl (same v h (ap not b))
            ];
      }

  module _ (d : Drawn t) where
    -- edges lead upward

    arm_above : (s i v : ℕ) → in_arm t s i v ≡ true → s < v
    arm_above s i v h =
        omega (arith, (arm_head s i v h).1, d.up s (arm_first t s i) (first_edge s i (arm_counted s i v h)))

    arm_stays : (s i u v : ℕ) → in_arm t s i u ≡ true → edge t u v ≡ true → (v ≡ mate t s) ⊎ (in_arm t s i v ≡ true)
    unfolding in_arm
    arm_stays s i u v h j =
        found_next (edge t) (arm_first t s i) (mate t s) (size t) u v h j (d.up u v j) (d.inside u v j)

    -- the rules of the whole graph

    keeps_whole : (G1 t ≡ true) × (G2 t ≡ true)
    unfolding keeps_rules
    keeps_whole =
        let both = and_left (G1 t && G2 t) _ d.rules in
        (and_left (G1 t) (G2 t) both, and_right (G1 t) (G2 t) both)

    out : (v : ℕ) → suc v < size t → (u : ℕ) × (edge t v u ≡ true)
    unfolding G1
    out v lt =
        let h = and_right (eqb v 0 || any (size t) (λ u. edge t u v)) _ (every_at (size t) _ keeps_whole.0 v (omega arith)) in
        elim (or_cases (eqb v (size t - 1)) _ h) [
          | inl b ↦ absurd (omega (arith, eqb-true v (size t - 1) b))
          | inr b ↦ let f = any_found (size t) (λ u. edge t v u) b in (f.0, f.2)
        ]

    mate_back : (s : ℕ) → starts t s ≡ true → mate t (mate t s) ≡ s
    unfolding G2 pairs
    mate_back s h =
        let both = and_left (not (starts t s) || ends t (mate t s) && eqb (mate t (mate t s)) s) _ (every_at (size t) _ keeps_whole.1 s (start_below s h)) in
        eqb-true (mate t (mate t s)) s (and_right (ends t (mate t s)) _ (implied (starts t s) _ both h))

    mate_once : (s r : ℕ) → starts t s ≡ true → starts t r ≡ true → mate t s ≡ mate t r → s ≡ r
    mate_once s r h k q = sym (mate_back s h) ∙ ap (mate t) q ∙ mate_back r k

    -- the rules of the choice that starts at s

    module _ (s : ℕ) (h : starts t s ≡ true) where
      pub keeps_choice : (G3 t s ≡ true) × (G4 t s ≡ true) × (G5 t s ≡ true) × (G6 t s ≡ true)
      unfolding keeps_rules
      keeps_choice =
          let four = implied (starts t s) _ (every_at (size t) _ (and_right (G1 t && G2 t) _ d.rules) s (start_below s h)) h in
          let three = and_left (G3 t s && G4 t s && G5 t s) (G6 t s) four in
          let two = and_left (G3 t s && G4 t s) (G5 t s) three in (
            and_left (G3 t s) (G4 t s) two,
            and_right (G3 t s) (G4 t s) two,
            and_right (G3 t s && G4 t s) (G5 t s) three,
            and_right (G3 t s && G4 t s && G5 t s) (G6 t s) four,
          )

      two_arms : 2 ≤ arms t s
      two_arms = omega (arith, two_arms_lem s keeps_choice.0)

      apart : (i j v : ℕ) → in_arm t s i v ≡ true → in_arm t s j v ≡ true → i ≡ j
      unfolding G4
      apart i j v hi hj =
          let rule = every_at (arms t s) _ (every_at (arms t s) _ keeps_choice.1 i (arm_counted s i v hi)) j (arm_counted s j v hj) in
          elim (or_cases (eqb i j) _ rule) [
            | inl b ↦ eqb-true i j b
            | inr b ↦
                let shared = in_arm t s i v && in_arm t s j v in
                absurd (not_both shared (and_both (in_arm t s i v) (in_arm t s j v) hi hj) (not-true shared (every_at (size t) _ b v (arm_below s i v hi))))
          ]

      entry : (i u v : ℕ) → in_arm t s i v ≡ true → edge t u v ≡ true → (in_arm t s i u ≡ true) ⊎ ((u ≡ s) × (v ≡ arm_first t s i))
      unfolding G6 shut
      entry i u v hv j =
          let arm = every_at (arms t s) _ keeps_choice.3 i (arm_counted s i v hv) in
          let rule = every_at (size t) _ (every_at (size t) _ arm v (arm_below s i v hv)) u (omega (arith, d.up u v j, arm_below s i v hv)) in
          elim (or_cases (not (in_arm t s i v && edge t u v) || in_arm t s i u) _ rule) [
            | inl b ↦ inl (implied (in_arm t s i v && edge t u v) _ b (and_both (in_arm t s i v) (edge t u v) hv j))
            | inr b ↦ inr (eqb-true u s (and_left (eqb u s) _ b), eqb-true v (arm_first t s i) (and_right (eqb u s) _ b))
          ]

      closing : (i : ℕ) → i < arms t s → Closing t s i
      unfolding G5 closes
      closing i lt =
          elim (or_cases (bare t s i) _ (every_at (arms t s) _ keeps_choice.2 i lt)) [
            | inl b ↦ closing_bare s i lt b
            | inr b ↦
                let one = eqb (count (size t) (stops s i)) 1 in
                closing_full s i (eqb-true (count (size t) (stops s i)) 1 (and_left one _ b))
                (λ v hv. beq_true (edge t v (mate t s)) (not (goes_on t s i v)) (implied (in_arm t s i v) _ (every_at (size t) _ (and_right one _ b) v (arm_below s i v hv)) hv))
          ]

pub arms_of : (t : Shape) → Drawn t → Arms t
arms_of t d =
    record {
      up = d.up;
      inside = d.inside;
      out = out t d;
      start_below = start_below t;
      mate_above = λ s h. (d.start_mate s h).0;
      mate_below = λ s h. (d.start_mate s h).1;
      mate_once = mate_once t d;
      two_arms = two_arms t d;
      arm_below = arm_below t;
      arm_counted = arm_counted t;
      arm_above = arm_above t d;
      arm_end = arm_end t;
      arm_stays = arm_stays t d;
      arm_entered = arm_entered t;
      first_edge = first_edge t;
      apart = λ s i j v h. apart t d s h i j v;
      entry = λ s i u v h. entry t d s h i u v;
      closing = λ s i h. closing t d s h i;
    }

-- an arm is what routes from its first vertex lead to, short of the end
pub arm_is_reached :
    (t : Shape) → Drawn t → (s i v : ℕ) → i < arms t s
    → (in_arm t s i v ≡ true) ↔ Route (edge t) (arm_first t s i) (mate t s) v
unfolding in_arm
arm_is_reached t d s i v counted = (
  found_route (edge t) (arm_first t s i) (mate t s) (size t) v,
  route_found (edge t) (arm_first t s i) (mate t s) (size t) (λ u w e. (d.up u w e, d.inside u w e))
      (d.inside s (arm_first t s i) (first_edge t s i counted)) v,
)
