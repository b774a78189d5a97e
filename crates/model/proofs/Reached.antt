-- What the search along the edges finds: exactly the vertices that a route leads to, short of the end.
use Prim.Native.Nat.{ℕ, zero, suc, ◌+◌, ◌≤◌, ◌<◌}
use mathlib.Core.Path.{◌≡◌, refl, sym, ◌∙◌, ap, subst}
use mathlib.Core.Bool.{Bool, true, false, not, ◌&&◌, ◌||◌}
use mathlib.Core.List.{[], ◌∷◌}
use mathlib.Core.Logic.{◌⊎◌, inl, inr}
use native.Mathlib.Nat.{not-suc-le-zero}
use native.Mathlib.Omega.{arith}
use lib.Dec.{eqb, ltb}
use lib.ListN.{length, get_or, length-append, get_or-append, get_or-eq_default}
use lib.Seq.{get_or_at}
use borrow.Author.Tests.{ltb-true, ltb-false, eqb-true, eqb-false, eq-eqb, ne_eqb, not-true}
use Rattle.model.specs.Range.{any}
use Rattle.model.specs.Graph.{edge, reached}
use Rattle.model.proofs.Induction.{from_earlier}
use Rattle.model.proofs.Ranges.{or_left, any_ext, and_left, and_right, and_both, or_cases, or_right, not_both, decided, below_suc, any_of, any_found}

module _ (joins : ℕ → ℕ → Bool) (a e : ℕ) where
  -- v is found in a search below k
  abbrev pub found : ℕ → ℕ → Bool
  found k v = get_or (reached joins a e k) v false

  pub length_reached : (k : ℕ) → length (reached joins a e k) ≡ k
  length_reached zero = refl
  length_reached (suc k) =
      length-append (reached joins a e k) (_ ∷ []) ∙ ap (λ n. n + 1) (length_reached k) ∙ omega arith

  pub found_below : (k v : ℕ) → found k v ≡ true → v < k
  found_below k v h =
      elim (decided (ltb v k)) [
        | inl b ↦ ltb-true v k b
        | inr b ↦ absurd (not_both (found k v) h (get_or-eq_default (reached joins a e k) false (omega (arith, length_reached k, ltb-false v k b))))
      ]

  -- one vertex more: the others stay as they were, and it is found by way of those before it
  pub found_other : (k v : ℕ) → (v ≡ k → ⊥) → found (suc k) v ≡ found k v
  found_other k v ne =
      elim (decided (ltb v k)) [
        | inl b ↦
            let lt = ltb-true v k b in
            get_or-append (reached joins a e k) (_ ∷ []) false v (omega (arith, length_reached k))
        | inr b ↦
            let le = ltb-false v k b in
            get_or-eq_default (reached joins a e (suc k)) false (omega (arith, length_reached (suc k), ne))
            ∙ sym (get_or-eq_default (reached joins a e k) false (omega (arith, length_reached k)))
      ]

  pub found_last : (k : ℕ) → found (suc k) k ≡ (not (eqb k e) && (eqb k a || any k (λ u. found k u && joins u k)))
  found_last k = get_or_at (reached joins a e k) _ [] false k (length_reached k)

  -- what is found of v does not depend on how far the search goes
  pub found_same : (k v : ℕ) → v < k → found k v ≡ found (suc v) v
  found_same zero v lt = absurd (not-suc-le-zero lt)
  found_same (suc k) v lt =
      elim (below_suc lt) [
        | inl q ↦ subst (λ j. found (suc j) v ≡ found (suc v) v) q refl
        | inr l ↦ found_other k v (λ q. omega arith) ∙ found_same k v l
      ]

  pub found_is : (k v : ℕ) → v < k → found k v ≡ (not (eqb v e) && (eqb v a || any v (λ u. found k u && joins u v)))
  found_is k v lt =
      found_same k v lt
      ∙ found_last v
      ∙ ap (λ b. not (eqb v e) && (eqb v a || b)) (any_ext v _ _ (λ u l. ap (λ b. b && joins u v) (found_same v u l ∙ sym (found_same k u (omega arith)))))

  pub found_end : (k v : ℕ) → found k v ≡ true → v ≡ e → ⊥
  found_end k v h =
      eqb-false v e (not-true (eqb v e) (and_left (not (eqb v e)) _ (sym (found_is k v (found_below k v h)) ∙ h)))

  -- what is found is a itself, or has an edge from a lower one that is found
  pub found_from : (k v : ℕ) → found k v ≡ true → (v ≡ a) ⊎ ((u : ℕ) × (found k u ≡ true) × (joins u v ≡ true) × (u < v))
  found_from k v h =
      elim (or_cases (eqb v a) _ (and_right (not (eqb v e)) _ (sym (found_is k v (found_below k v h)) ∙ h))) [
        | inl b ↦ inl (eqb-true v a b)
        | inr b ↦
            let f = any_found v (λ u. found k u && joins u v) b in
            inr (f.0, and_left (found k f.0) (joins f.0 v) f.2, and_right (found k f.0) (joins f.0 v) f.2, f.1)
      ]

  -- an edge from what is found leads to what is found, short of the end
  pub found_next : (k u v : ℕ) → found k u ≡ true → joins u v ≡ true → u < v → v < k → (v ≡ e) ⊎ (found k v ≡ true)
  found_next k u v h j lt below =
      elim (decided (eqb v e)) [
        | inl b ↦ inl (eqb-true v e b)
        | inr b ↦
            inr (found_is k v below
            ∙ and_both (not (eqb v e)) _ (ap not b) (or_right (eqb v a) _ (any_of v (λ w. found k w && joins w v) u lt (and_both (found k u) (joins u v) h j))))
      ]

  -- where anything is found, a is, and it is the lowest
  pub found_first : (k v : ℕ) → found k v ≡ true → (found k a ≡ true) × (a ≤ v)
  found_first k =
      from_earlier (λ v. found k v ≡ true → (found k a ≡ true) × (a ≤ v)) (λ v earlier h.
      elim (found_from k v h) [
        | inl q ↦ (subst (λ w. found k w ≡ true) q h, omega arith)
        | inr f ↦
            let below = f.3 in
            let r = earlier f.0 below f.1 in
            (r.0, omega (arith, r.1))
      ])

  -- A route from a along the edges that does not meet e.
  pub data Route : ℕ → Type 0 where
    here : (a ≡ e → ⊥) → Route a
    further : {u v : ℕ} → Route u → joins u v ≡ true → (v ≡ e → ⊥) → Route v

  -- a route leads to whatever is found
  pub found_route : (k v : ℕ) → found k v ≡ true → Route v
  found_route k =
      from_earlier (λ v. found k v ≡ true → Route v) (λ v earlier h.
      elim (found_from k v h) [
        | inl q ↦ subst Route (sym q) (here (subst (λ w. w ≡ e → ⊥) q (found_end k v h)))
        | inr f ↦ further (earlier f.0 f.3 f.1) f.2 (found_end k v h)
      ])

  -- and whatever a route leads to is found, where edges lead upward and stay below k
  pub route_found :
      (k : ℕ) → ((u v : ℕ) → joins u v ≡ true → (u < v) × (v < k)) → a < k → (v : ℕ) → Route v → found k v ≡ true
  route_found k up low v (here ne) =
      found_is k a low ∙ and_both (not (eqb a e)) _ (ap not (ne_eqb a e ne)) (or_left (eqb a a) _ (eq-eqb a a refl))
  route_found k up low v (further {u} r j ne) =
      elim (found_next k u v (route_found k up low u r) j (up u v j).0 (up u v j).1) [
        | inl q ↦ absurd (ne q)
        | inr h ↦ h
      ]
