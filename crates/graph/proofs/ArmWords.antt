-- The arms of a choice from the words of its graph: one turn of the search for what can be reached, and the two arms by what it finds.
use Prim.Native.Nat.{ℕ, zero, suc, ◌≤◌, ◌<◌}
use mathlib.Core.Path.{◌≡◌, refl, sym, ◌∙◌, ap, ap₂, subst, fun_ext}
use mathlib.Core.Bool.{Bool, true, false, not, ◌&&◌, ◌||◌, false≢true, and_comm, and-true, or-false, or_assoc}
use mathlib.Core.List.{List, [], ◌∷◌}
use mathlib.Core.Logic.{◌⊎◌, inl, inr}
use native.Mathlib.Omega.{arith}
use lib.Dec.{eqb, ltb}
use lib.ListN.{get_or}
use borrow.Author.Tests.{eqb-true, eq-eqb, ltb-true, ltb-false, lt-ltb, ne_eqb, not-true}
use Rattle.model.specs.Limits.{most_vertices}
use Rattle.model.specs.Range.{any, count, least}
use Rattle.model.specs.Graph.{Shape, size, mate, edge, arms, arm_first, in_arm}
use Rattle.model.proofs.Induction.{from_earlier}
use Rattle.model.proofs.Ranges.{and_left, and_right, and_both, and_same, or_cases, or_left, or_right, is_false, not_both, decided, same_test, any_of, any_found, any_ext, any_below, least_rank, count_found}
use Rattle.model.proofs.Reached.{found, found_below, found_is}
use Rattle.model.proofs.ArmFacts.{first_edge, rank_first, rank_counted, arm_counted}
use Rattle.vertices.specs.Members.{has}
use Rattle.vertices.proofs.Members.{has_zero, more}
use Rattle.graph.specs.Words.{Upward, OutOf, IsArm, follows}

-- One turn of the search

-- One vertex in a turn, which is seen (s), is the one taken (e), is next (n), has an edge from the one taken (o): seen or next behind
-- the turn is whoever was it before and whoever has that edge.
turned : (s e n o : Bool) → (e ≡ true → n ≡ true) → (s || e || (n || o) && not (s || e)) ≡ (s || n || o)
turned true e n o taken = refl
turned false true true o taken = refl
turned false true false o taken = absurd (false≢true (taken refl))
turned false false n o taken = and-true (n || o)

-- what is seen and not shut, where what is seen is shut or reached
opened : (s h r : Bool) → s ≡ (h || r) → (s && not h) ≡ (not h && r)
opened s true r e = and_comm s false
opened s false r e = and-true s ∙ e

module _ (out : List ℕ) (p : ℕ → Bool) (v : ℕ) where
  follows_of : (u : ℕ) → u < most_vertices → p u ≡ true → has (get_or out u 0) v ≡ true → follows out p v ≡ true
  unfolding follows
  follows_of u small h e = any_of 64 (λ w. p w && has (get_or out w 0) v) u small (and_both (p u) _ h e)

  follows_found : follows out p v ≡ true → (u : ℕ) × (u < most_vertices) × (p u ≡ true) × (has (get_or out u 0) v ≡ true)
  unfolding follows
  follows_found h =
      let f = any_found 64 (λ w. p w && has (get_or out w 0) v) h in
      (f.0, f.1, and_left (p f.0) _ f.2, and_right (p f.0) _ f.2)

module _ (out : List ℕ) (first shut : ℕ) where
  -- u is in the set w and not shut
  abbrev free : ℕ → ℕ → Bool
  free w u = has w u && not (has shut u)

  -- whoever is shut counts as seen, nobody is seen and next, and whoever is one of both is shut, of the first, or follows one that is seen
  pub record Search (seen next : ℕ) : Type 0 where
    pub closed : (v : ℕ) → has shut v ≡ true → has seen v ≡ true
    pub apart : (v : ℕ) → has next v ≡ true → has seen v ≡ false
    pub all : (v : ℕ) → (has seen v || has next v) ≡ (has shut v || (has first v || follows out (free seen) v))

  pub begins : (next : ℕ) → ((v : ℕ) → has next v ≡ (has first v && not (has shut v))) → Search shut next
  begins next is_next =
      record {
        closed = λ v h. h;
        apart = λ v h. not-true (has shut v) (and_right (has first v) _ (sym (is_next v) ∙ h));
        all = λ v. ap (λ b. has shut v || b) (is_next v) ∙ start (has shut v) (has first v) _ (nobody v);
      }
    where
      nobody : (v : ℕ) → follows out (free shut) v ≡ false
      nobody v =
          is_false (follows out (free shut) v) (λ h.
          let f = follows_found out (free shut) v h in
          let s = has shut f.0 in
          not_both s (and_left s _ f.2) (not-true s (and_right s _ f.2)))

      start : (h f o : Bool) → o ≡ false → (h || f && not h) ≡ (h || (f || o))
      start true f o e = refl
      start false f o e = and-true f ∙ sym (or-false f) ∙ ap (λ b. f || b) (sym e)

  -- a turn takes v, which is next: it is seen from now on, and whoever it has an edge to is next unless it is seen
  module _ {seen next : ℕ} (search : Search seen next) (v : ℕ) (small : v < most_vertices) (held : has next v ≡ true)
      (seen' : ℕ) (takes : (u : ℕ) → has seen' u ≡ (has seen u || eqb u v)) where
    stays : (u : ℕ) → has seen u ≡ true → has seen' u ≡ true
    stays u h = takes u ∙ or_left (has seen u) (eqb u v) h

    taken : has seen' v ≡ true
    taken = takes v ∙ or_right (has seen v) (eqb v v) (eq-eqb v v refl)

    -- the number of what is seen grows
    pub grows : seen < seen'
    grows = more seen seen' v (search.apart v held) taken stays

    -- who follows one that is seen now, followed one before or v
    followed : (u : ℕ) → follows out (free seen') u ≡ (follows out (free seen) u || has (get_or out v 0) u)
    followed u =
        same_test (follows out (free seen') u) (follows out (free seen) u || has (get_or out v 0) u)
        (λ h.
        let f = follows_found out (free seen') u h in
        let w = f.0 in
        elim (or_cases (has seen w) (eqb w v) (sym (takes w) ∙ and_left (has seen' w) _ f.2)) [
          | inl old ↦
              or_left (follows out (free seen) u) _
              (follows_of out (free seen) u w f.1 (and_both (has seen w) _ old (and_right (has seen' w) _ f.2)) f.3)
          | inr e ↦
              or_right (follows out (free seen) u) _ (subst (λ x. has (get_or out x 0) u ≡ true) (eqb-true w v e) f.3)
        ])
        (λ h.
        elim (or_cases (follows out (free seen) u) _ h) [
          | inl old ↦
              let f = follows_found out (free seen) u old in
              let w = f.0 in
              follows_of out (free seen') u w f.1
              (and_both (has seen' w) _ (stays w (and_left (has seen w) _ f.2)) (and_right (has seen w) _ f.2)) f.3
          | inr new ↦
              let not_shut = is_false (has shut v) (λ s. not_both (has seen v) (search.closed v s) (search.apart v held)) in
              follows_of out (free seen') u v small (and_both (has seen' v) _ taken (ap not not_shut)) new
        ])

    pub turn :
        (both next' : ℕ) → ((u : ℕ) → has both u ≡ (has next u || has (get_or out v 0) u))
        → ((u : ℕ) → has next' u ≡ (has both u && not (has seen' u))) → Search seen' next'
    turn both next' either fresh =
        record {
          closed = λ u h. stays u (search.closed u h);
          apart = λ u h. not-true (has seen' u) (and_right (has both u) _ (sym (fresh u) ∙ h));
          all = λ u.
              let o = has (get_or out v 0) u in
              ap (λ b. has seen' u || b) (fresh u ∙ ap (λ b. b && not (has seen' u)) (either u))
              ∙ ap (λ b. b || (has next u || o) && not b) (takes u)
              ∙ turned (has seen u) (eqb u v) (has next u) o (λ e. ap (has next) (eqb-true u v e) ∙ held)
              ∙ ap (λ b. b || o) (search.all u)
              ∙ or_assoc (has shut u) (has first u || follows out (free seen) u) o
              ∙ ap (λ b. has shut u || b)
              (or_assoc (has first u) (follows out (free seen) u) o ∙ ap (λ b. has first u || b) (sym (followed u)));
        }

  -- r holds whoever is not shut and is of the first or follows one that r holds
  abbrev pub Reach : ℕ → Type 0
  Reach r = (v : ℕ) → has r v ≡ (not (has shut v) && (has first v || follows out (has r) v))

  -- where nobody is next, those seen and not shut are such
  pub done : {seen next : ℕ} → Search seen next → next ≡ 0 → (r : ℕ) → ((v : ℕ) → has r v ≡ free seen v) → Reach r
  done {seen} {next} search none r is v =
      let last = sym (ap (λ b. has seen v || b) (ap (λ w. has w v) none ∙ has_zero v) ∙ or-false (has seen v)) ∙ search.all v in
      is v ∙ opened (has seen v) (has shut v) (has first v || follows out (free seen) v) last
      ∙ ap (λ p. not (has shut v) && (has first v || follows out p v)) (sym (fun_ext is))

-- The first vertices of the arms

-- the end as a set: no vertex of a word has a number from 64 on
pub shut_at :
    (end w : ℕ) → ((end < most_vertices) × ((u : ℕ) → has w u ≡ (has 0 u || eqb u end))) ⊎ ((most_vertices ≤ end) × (w ≡ 0))
    → (v : ℕ) → v < most_vertices → has w v ≡ eqb v end
shut_at end w way v small =
    elim way [
      | inl y ↦ y.1 v ∙ ap (λ b. b || eqb v end) (has_zero v)
      | inr n ↦
          ap (λ x. has x v) n.1 ∙ has_zero v ∙ sym (ne_eqb v end (λ e. let high = n.0 in omega arith))
    ]

module _ (t : Shape) (n : ℕ) (upward : Upward t n) (s : ℕ) where
  -- how many edges lead from s to lower vertices
  abbrev rank : ℕ → ℕ
  rank v = count v (λ u. edge t s u)

  -- one of the vertices to which s has an edge is the first of arm i just where i of them are lower
  ranked : (i : ℕ) → i < arms t s → (v : ℕ) → (edge t s v && eqb (rank v) i) ≡ eqb v (arm_first t s i)
  unfolding arms
  ranked i counted v =
      let f = count_found (size t) (edge t s) i counted in
      let first : arm_first t s i ≡ f.0 = ap (arm_first t s) (sym f.3) ∙ rank_first t s f.0 f.1 f.2 in
      same_test (edge t s v && eqb (rank v) i) (eqb v (arm_first t s i))
      (λ h.
      let e = and_left (edge t s v) _ h in
      let below : v < size t = omega (arith, upward.counted, upward.inside s v e) in
      eq-eqb v (arm_first t s i)
      (sym (rank_first t s v below e) ∙ ap (arm_first t s) (eqb-true (rank v) i (and_right (edge t s v) _ h))))
      (λ h.
      let at : v ≡ f.0 = eqb-true v (arm_first t s i) h ∙ first in
      subst (λ x. (edge t s x && eqb (rank x) i) ≡ true) (sym at)
      (and_both (edge t s f.0) _ f.2 (eq-eqb (rank f.0) i f.3)))

  -- where the word holds the two vertices to which s has an edge, the higher is the first of arm 1 and the lower that of arm 0
  module _ (word : ℕ) (out : (v : ℕ) → has word v ≡ edge t s v) (two : arms t s ≡ 2)
      (second : ℕ) (others : (v : ℕ) → has second v ≡ (has word v && not (eqb v (least 64 (has word))))) where
    above : (v : ℕ) → has second v ≡ (edge t s v && ltb 0 (rank v))
    above v =
        others v
        ∙ ap (λ p. p v && not (eqb v (least 64 p))) (fun_ext out)
        ∙ and_same (edge t s v) (λ e. least_rank 64 (edge t s) v (omega (arith, upward.small, upward.inside s v e)) e)

    higher : (v : ℕ) → has second v ≡ eqb v (arm_first t s 1)
    higher v =
        above v
        ∙ and_same (edge t s v) (λ e.
        let most = rank_counted t s v (omega (arith, upward.counted, upward.inside s v e)) e in
        same_test (ltb 0 (rank v)) (eqb (rank v) 1)
        (λ h. eq-eqb (rank v) 1 (omega (arith, ltb-true 0 (rank v) h)))
        (λ h. lt-ltb 0 (rank v) (omega (arith, eqb-true (rank v) 1 h))))
        ∙ ranked 1 (omega arith) v

    lower : (w : ℕ) → ((v : ℕ) → has w v ≡ (has word v && not (has second v))) → (v : ℕ) → has w v ≡ eqb v (arm_first t s 0)
    lower w rest v =
        rest v
        ∙ ap₂ (λ a b. a && not b) (out v) (above v)
        ∙ and_same (edge t s v) (λ e.
        ap (λ b. not (b && ltb 0 (rank v))) e
        ∙ same_test (not (ltb 0 (rank v))) (eqb (rank v) 0)
        (λ h. eq-eqb (rank v) 0 (omega (arith, ltb-false 0 (rank v) (not-true (ltb 0 (rank v)) h))))
        (λ h. ap not (is_false (ltb 0 (rank v)) (λ l. omega (arith, ltb-true 0 (rank v) l, eqb-true (rank v) 0 h)))))
        ∙ ranked 0 (omega arith) v

-- The arms

module _ (t : Shape) (n : ℕ) (upward : Upward t n) (out : List ℕ) (edges : OutOf t out) (s shut : ℕ)
    (shuts : (v : ℕ) → v < most_vertices → has shut v ≡ eqb v (mate t s)) where
  -- who follows one that has p has an edge from a lower one
  follows_lower : (p : ℕ → Bool) (v : ℕ) → v ≤ most_vertices → follows out p v ≡ any v (λ u. p u && edge t u v)
  unfolding follows
  follows_lower p v small =
      ap (any 64) (fun_ext (λ u. ap (λ b. p u && b) (edges u v)))
      ∙ any_below v 64 (λ u. p u && edge t u v) small (λ u h. upward.up u v (and_right (p u) _ h))

  -- what can be reached from the first vertex of an arm is what one pass over the vertices finds
  holds_arm :
      (i first r : ℕ) → i < arms t s → ((v : ℕ) → has first v ≡ eqb v (arm_first t s i)) → Reach out first shut r → IsArm t s i r
  unfolding in_arm
  holds_arm i first r counted is_first reach = from_earlier (λ v. has r v ≡ finds v) step
    where
      finds : ℕ → Bool
      finds = found (edge t) (arm_first t s i) (mate t s) (size t)

      -- an edge leads to whoever is reached
      below : (v : ℕ) → has r v ≡ true → v < size t
      below v h =
          elim (or_cases (has first v) _ (and_right (not (has shut v)) _ (sym (reach v) ∙ h))) [
            | inl b ↦
                let e = eqb-true v (arm_first t s i) (sym (is_first v) ∙ b) in
                omega (arith, upward.counted, upward.inside s (arm_first t s i) (first_edge t s i counted))
            | inr b ↦
                let f = follows_found out (has r) v b in
                omega (arith, upward.counted, upward.inside f.0 v (sym (edges f.0 v) ∙ f.3))
          ]

      step : (v : ℕ) → ((u : ℕ) → u < v → has r u ≡ finds u) → has r v ≡ finds v
      step v earlier =
          elim (decided (ltb v (size t))) [
            | inl b ↦
                let low = ltb-true v (size t) b in
                let small : v < most_vertices = omega (arith, upward.counted, upward.small) in
                reach v
                ∙ ap₂ (λ a b. not a && b) (shuts v small)
                (ap₂ (λ a b. a || b) (is_first v)
                (follows_lower (has r) v (omega arith) ∙ any_ext v _ _ (λ u l. ap (λ b. b && edge t u v) (earlier u l))))
                ∙ sym (found_is (edge t) (arm_first t s i) (mate t s) (size t) v low)
            | inr b ↦
                let high = ltb-false v (size t) b in
                is_false (has r v) (λ h. omega (arith, below v h))
                ∙ sym (is_false (finds v) (λ h. omega (arith, found_below (edge t) (arm_first t s i) (mate t s) (size t) v h)))
          ]

  -- what can be reached from the lower of the two vertices to which s has an edge, and from the higher, are the two arms; there is no third
  pub pair :
      (word : ℕ) → ((v : ℕ) → has word v ≡ edge t s v) → arms t s ≡ 2 → (second first a b : ℕ)
      → ((v : ℕ) → has second v ≡ (has word v && not (eqb v (least 64 (has word)))))
      → ((v : ℕ) → has first v ≡ (has word v && not (has second v)))
      → Reach out first shut a → Reach out second shut b → (i : ℕ) → IsArm t s i (get_or (a ∷ b ∷ []) i 0)
  pair word leads two second first a b others rest ra rb zero =
      holds_arm 0 first a (omega arith) (lower t n upward s word leads two second others first rest) ra
  pair word leads two second first a b others rest ra rb (suc zero) =
      holds_arm 1 second b (omega arith) (higher t n upward s word leads two second others) rb
  pair word leads two second first a b others rest ra rb (suc (suc i)) = λ v.
      has_zero v ∙ sym (is_false (in_arm t s (suc (suc i)) v) (λ h. omega (arith, arm_counted t s (suc (suc i)) v h)))
