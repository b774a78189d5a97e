-- A history that reaches the demand: releases a period apart, the last with its deadline on the end of the interval. The first has the
-- way with the most left when the interval begins, the others one of the largest volume.
use Prim.Native.Nat.{ℕ, zero, suc, ◌+◌, ◌-◌, ◌*◌, ◌/◌, ◌%◌, ◌≤◌}
use mathlib.Core.Path.{◌≡◌, refl, sym, ◌∙◌, ap}
use mathlib.Core.List.{List, [], ◌∷◌, Memᴰ}
use mathlib.Core.Logic.{◌⊎◌, inl, inr}
use native.Mathlib.Nat.{mul-suc, mul-zero, mul-le-mul_left, mod-add-div}
use native.Mathlib.Omega.{arith}
use lib.Dec.{leb}
use borrow.Author.Tests.{leb-true, leb-false, le-leb}
use Rattle.model.specs.Range.{only}
use Rattle.model.specs.Realization.{Task, Way, ways, remaining, largest, rdem}
use Rattle.model.specs.Curve.{curve_of, demand}
use Rattle.model.proofs.Ranges.{decided, and_both, only_true}
use Rattle.histories.specs.History.{Release, NextFrom, History, runs, counts, inside}
use Rattle.histories.specs.Worst.{Spared}
use Rattle.histories.proofs.Running.{demand_left, runs_is}
use Rattle.histories.proofs.AtMost.{InTime}

-- where there is a way, one of them has the largest
largest_found :
    (w : Way) (ws : List Way) (f : Way → ℕ) → (v : Way) × Memᴰ v (w ∷ ws) × (f v ≡ largest (w ∷ ws) f)
largest_found w [] f = (w, Memᴰ.head refl, omega arith)
largest_found w (u ∷ ws) f =
    let rest = largest_found u ws f in
    elim (decided (leb (largest (u ∷ ws) f) (f w))) [
      | inl here ↦ (w, Memᴰ.head refl, omega (arith, leb-true (largest (u ∷ ws) f) (f w) here))
      | inr there ↦
          (rest.0, Memᴰ.tail rest.1, omega (arith, rest.2, leb-false (largest (u ∷ ws) f) (f w) there))
    ]

any_way : (ws : List Way) → (ws ≡ []) ⊎ ((f : Way → ℕ) → (v : Way) × Memᴰ v ws × (f v ≡ largest ws f))
any_way [] = inl refl
any_way (w ∷ ws) = inr (largest_found w ws)

-- n releases by one way, a gap apart, from tick s on
abbrev train : ℕ → Way → ℕ → ℕ → List Release
train gap w s zero = []
train gap w s (suc n) = record { tick = s; way = w } ∷ train gap w (s + gap) n

train_next : (gap : ℕ) (w : Way) (s n : ℕ) → NextFrom s (train gap w s n)
train_next gap w s zero = tt
train_next gap w s (suc n) = omega arith

module _ (p q : ℕ) (t : Task) (spared : Spared p q t) where
  train_history : (w : Way) → Memᴰ w (ways t.shape) → (s n : ℕ) → History p t (train (p * t.period) w s n)
  train_history w m s zero = tt
  train_history w m s (suc n) =
      (m, train_next (p * t.period) w (s + p * t.period) n, train_history w m (s + p * t.period) n)

  -- a release whose deadline lies inside adds what is left of it when the interval begins
  adds_left :
      (a x : ℕ) (r : Release) → Memᴰ r.way (ways t.shape) → a ≤ r.tick + p * t.deadline
      → r.tick + p * t.deadline ≤ a + x
      → only (counts p t a x r) (runs t q a x r) ≡ remaining t q r.way (a - r.tick)
  unfolding counts
  adds_left a x r m from by =
      let deadline = r.tick + p * t.deadline in
      only_true (counts p t a x r) (runs t q a x r)
      (and_both (leb a deadline) (leb deadline (a + x)) (le-leb a deadline from) (le-leb deadline (a + x) by))
      ∙ runs_is p q t spared a x r m by

  -- releases from a on, the last of them in time, run all that they have
  train_inside :
      (w : Way) → Memᴰ w (ways t.shape) → (a x s n : ℕ) → a ≤ s
      → InTime p t a x s n → inside p q t a x (train (p * t.period) w s n) ≡ remaining t q w 0 * n
  train_inside w m a x s zero from by = sym (mul-zero (remaining t q w 0))
  train_inside w m a x s (suc n) from by =
      let r : Release = record { tick = s; way = w } in
      let more = mul-suc (p * t.period) n in
      let here = adds_left a x r m (omega arith) (omega arith) in
      let none : a - s ≡ 0 = omega arith in
      let rest = train_inside w m a x (s + p * t.period) n (omega arith) (omega arith) in
      omega (arith, here, ap (remaining t q w) none, rest, mul-suc (remaining t q w 0) n)

  -- some history runs all of the demand inside the interval from a on
  abbrev pub Reaches : ℕ → ℕ → Type 0
  Reaches a x = (rs : List Release) × History p t rs × (inside p q t a x rs ≡ demand p q (curve_of t) x)

  -- one does wherever the interval begins, from tick p·deadline on
  pub reaches : (a x : ℕ) → p * t.deadline ≤ a → Reaches a x
  unfolding rdem
  reaches a x later =
      elim (any_way (ways t.shape)) [
        | inl none ↦
            let nothing : (y : ℕ) → rdem t q y ≡ 0 = λ y. ap (λ l. largest l (λ w. remaining t q w y)) none in
            ([], tt, sym (asks ∙ rw (nothing (D - x % P), nothing 0) (omega arith)))
        | inr best ↦
            let fullest = best (λ w. remaining t q w (D - x % P)) in
            let largest = best (λ w. remaining t q w 0) in
            let w = largest.0 in
            let r : Release = record { tick = first; way = fullest.0 } in
            let next = first + P in
            let some = adds_left a x r fullest.1 (omega arith) (omega (arith, split)) in
            let due : a - first ≡ D - x % P = omega arith in
            let all = train_inside w largest.1 a x next (x / P) (omega (arith, longer)) (omega (arith, split)) in (
              r ∷ train P w next (x / P),
              (fullest.1, train_next P w next (x / P), train_history w largest.1 next (x / P)),
              omega (arith, asks, some, ap (remaining t q fullest.0) due, fullest.2, all, ap (λ v. v * (x / P)) largest.2),
            )
      ]
    where
      P : ℕ
      P = p * t.period

      D : ℕ
      D = p * t.deadline

      longer : D ≤ P
      longer = mul-le-mul_left p spared.constrained.within

      first : ℕ
      first = a - D + x % P

      split : x % P + P * (x / P) ≡ x
      split = mod-add-div x P

      asks : demand p q (curve_of t) x ≡ rdem t q (D - x % P) + rdem t q 0 * (x / P)
      asks = demand_left p q t spared.constrained x
