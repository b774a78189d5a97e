-- The vertices of a role: each turn of the loop over the vertex records settles one of them, and what a start's record tells.
use Prim.Native.Nat.{ℕ, ◌+◌, ◌≤◌, ◌<◌}
use mathlib.Core.Path.{◌≡◌, refl, sym, ◌∙◌, ap, ap₂}
use mathlib.Core.Bool.{Bool, true, ◌&&◌, ◌||◌, or-false, and-true, and-false}
use mathlib.Core.List.{List}
use lib.ListN.{get_or-eq_default}
use mathlib.Core.Logic.{inl, inr}
use native.Mathlib.Omega.{arith}
use lib.Dec.{eqb, ltb}
use borrow.Author.Tests.{ltb-true, ltb-false, lt-ltb, le-ltb, eqb-true, eqb-false, eq-eqb, ne_eqb}
use Rattle.model.specs.Limits.{most_vertices}
use Rattle.model.specs.Graph.{Shape, size, role, starts, mate}
use Rattle.model.specs.Records.{fields_at, shape_at}
use Rattle.model.proofs.Ranges.{and_right, and_both, and_second, decided, same_test}
use Rattle.model.proofs.Table.{size_at}
use Rattle.records.specs.Rows.{Tabled}
use Rattle.records.proofs.Tabled.{sized, start_mate_lem}
use Rattle.vertices.specs.Members.{has}
use Rattle.vertices.proofs.Members.{has_zero}

-- of the vertices below v the word holds those that have p, and no others
abbrev pub Known : (ℕ → Bool) → ℕ → ℕ → Type 0
Known p v w = (u : ℕ) → has w u ≡ (ltb u v && p u)

module _ (p : ℕ → Bool) where
  pub known_none : Known p 0 0
  known_none u = has_zero u ∙ sym (ap (λ b. b && p u) (le-ltb u 0 (omega arith)))

  module _ (v w : ℕ) (before : Known p v w) where
    -- one vertex more, where the others stay
    settled : (after : ℕ) → ((u : ℕ) → (u ≡ v → ⊥) → has after u ≡ has w u) → has after v ≡ p v → Known p (v + 1) after
    settled after others here u =
        elim (decided (eqb u v)) [
          | inl e ↦
              let q = eqb-true u v e in
              ap (has after) q ∙ here ∙ ap p (sym q) ∙ and_second (ltb u (v + 1)) (p u) (lt-ltb u (v + 1) (omega arith))
          | inr e ↦
              let ne = eqb-false u v e in
              others u ne ∙ before u
              ∙ ap (λ b. b && p u)
              (same_test (ltb u v) (ltb u (v + 1))
              (λ h. lt-ltb u (v + 1) (omega (arith, ltb-true u v h)))
              (λ h. lt-ltb u v (omega (arith, ltb-true u (v + 1) h, ne))))
        ]

    -- v is taken in where it has p
    pub known_more :
        (here after : ℕ) → ((u : ℕ) → has here u ≡ (has 0 u || eqb u v)) → ((u : ℕ) → has after u ≡ (has w u || (p v && has here u)))
        → Known p (v + 1) after
    known_more here after one more =
        let own : (u : ℕ) → has here u ≡ eqb u v = λ u. one u ∙ ap (λ b. b || eqb u v) (has_zero u) in
        settled after
        (λ u ne.
        more u ∙ ap (λ b. has w u || (p v && b)) (own u ∙ ne_eqb u v ne) ∙ ap (λ b. has w u || b) (and-false (p v)) ∙ or-false (has w u))
        (more v
        ∙ ap₂ (λ a b. a || (p v && b)) (before v ∙ ap (λ b. b && p v) (le-ltb v v (omega arith))) (own v ∙ eq-eqb v v refl)
        ∙ and-true (p v))

-- behind the last vertex none has a role
pub role_below : (t : Shape) (u r : ℕ) → 0 < r → eqb (role t u) r ≡ true → u < size t
role_below t u r some h =
    elim (decided (ltb u (size t))) [
      | inl l ↦ ltb-true u (size t) l
      | inr l ↦
          let plain : role t u ≡ 0 = get_or-eq_default t.roles 0 (ltb-false u (size t) l) in
          absurd (omega (arith, eqb-true (role t u) r h))
    ]

pub known_all :
    (t : Shape) (r v w : ℕ) → 0 < r → size t ≤ v → Known (λ u. eqb (role t u) r) v w → (u : ℕ) → has w u ≡ eqb (role t u) r
known_all t r v w some passed known u =
    known u
    ∙ same_test (ltb u v && eqb (role t u) r) (eqb (role t u) r) (and_right (ltb u v) (eqb (role t u) r))
    (λ h. and_both (ltb u v) (eqb (role t u) r) (lt-ltb u v (omega (arith, role_below t u r some h))) h)

module _ {bytes : List ℕ} {place : ℕ} (t : Tabled bytes place) (s : ℕ) (start : starts (shape_at bytes place) s ≡ true) where
  -- both ends of a choice are among the vertices, of which there are at most 64
  pub start_below_lem : s < (fields_at bytes place).b
  start_below_lem = omega (arith, role_below (shape_at bytes place) s 1 (omega arith) start, size_at bytes place)

  pub end_below : {end : ℕ} → end ≡ mate (shape_at bytes place) s → end < (fields_at bytes place).b
  end_below e = omega (arith, e, start_mate_lem t s (eqb-true (role (shape_at bytes place) s) 1 start))

  pub ends_small : {end : ℕ} → end ≡ mate (shape_at bytes place) s → (s < most_vertices) × (end < most_vertices)
  ends_small e = let high = (sized t.task).high in (omega (arith, start_below_lem), omega (arith, end_below e))
