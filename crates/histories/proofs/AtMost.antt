-- No history runs more inside an interval than the demand. The i-th release from the last that counts is at least i periods older than
-- the latest that can be in time, so no more is left of it than at that age: of k of them no more than everything, of one a part, and
-- of the others nothing.
use Prim.Native.Nat.{ℕ, zero, suc, ◌+◌, ◌-◌, ◌*◌, ◌/◌, ◌≤◌, ◌<◌}
use mathlib.Core.Path.{◌≡◌, refl, ap, subst}
use mathlib.Core.Bool.{Bool, true, false, cond}
use mathlib.Core.List.{List, [], ◌∷◌}
use mathlib.Core.Logic.{inl, inr}
use native.Mathlib.Nat.{le_trans, eq-or-lt_of_le, mul_comm, mul-suc, mul-le-mul_left, mul-le-mul_right, mod-add-div, mod-lt}
use native.Mathlib.Omega.{arith}
use lib.Dec.{leb, ltb}
use borrow.Author.Tests.{leb-true, ltb-true, ltb-false}
use Rattle.model.specs.Range.{sum, only}
use Rattle.model.specs.Realization.{Task, ways, remaining, rdem, len}
use Rattle.model.specs.Curve.{curve_of, demand}
use Rattle.model.proofs.Ranges.{decided, and_right, sum_le}
use Rattle.model.proofs.Ways.{largest_at}
use Rattle.model.proofs.Demand.{period_some}
use Rattle.histories.specs.History.{Release, NextFrom, History, runs, counts, inside}
use Rattle.histories.specs.Worst.{Spared}
use Rattle.histories.proofs.Running.{constrained_lawful, demand_left, runs_is}

-- how many of the releases count
abbrev counted : ℕ → Task → ℕ → ℕ → List Release → ℕ
counted p t a x [] = 0
counted p t a x (r ∷ rs) = let rest = counted p t a x rs in cond (counts p t a x r) (suc rest) rest

-- the deadline of one that counts does not pass the interval
counts_within :
    (p : ℕ) (t : Task) (a x : ℕ) (r : Release) → counts p t a x r ≡ true → r.tick + p * t.deadline ≤ a + x
unfolding counts
counts_within p t a x r h =
    let by = leb-true (r.tick + p * t.deadline) _ (and_right (leb a (r.tick + p * t.deadline)) _ h) in
    omega arith

next_sooner : {k l : ℕ} (rs : List Release) → k ≤ l → NextFrom l rs → NextFrom k rs
next_sooner [] le h = tt
next_sooner (r ∷ rs) le h = le_trans le h

-- n releases from tick k on, a period apart, have their deadlines in time; one more period on both sides, for the case of none
abbrev pub InTime : ℕ → Task → ℕ → ℕ → ℕ → ℕ → Type 0
InTime p t a x k n = k + p * t.period * n + p * t.deadline ≤ a + x + p * t.period

-- with one before them they still have
in_time_more :
    (p : ℕ) (t : Task) (a x k n : ℕ) (r : Release) (rs : List Release) → NextFrom k (r ∷ rs)
    → InTime p t a x (r.tick + p * t.period) n → InTime p t a x k (suc n)
in_time_more p t a x k n r rs next later = omega (arith, mul-suc (p * t.period) n, next, later)

-- those that count have their deadlines in time
counted_in_time :
    (p : ℕ) (t : Task) (a x k : ℕ) (rs : List Release) → History p t rs → NextFrom k rs → InTime p t a x k 0
    → InTime p t a x k (counted p t a x rs)
counted_in_time p t a x k [] h next some = some
counted_in_time p t a x k (r ∷ rs) h next some =
    go (counts p t a x r) refl (λ l sooner. counted_in_time p t a x l rs h.2 (next_sooner rs sooner h.1))
  where
    n : ℕ
    n = counted p t a x rs

    go :
        (b : Bool) → counts p t a x r ≡ b
        → ((l : ℕ) → l ≤ r.tick + p * t.period → InTime p t a x l 0 → InTime p t a x l n)
        → InTime p t a x k (cond b (suc n) n)
    go true e later =
        let within = counts_within p t a x r e in
        in_time_more p t a x k n r rs next (later (r.tick + p * t.period) (omega arith) (omega arith))
    go false e later = later k (omega (arith, next)) some

-- The latest release whose deadline is in time, and the i-th before it: how old it is when the interval begins, and what is left of it.

abbrev age : ℕ → Task → ℕ → ℕ → ℕ
age p t x i = p * t.deadline + p * t.period * i - x

abbrev left : ℕ → ℕ → Task → ℕ → ℕ → ℕ
left p q t x i = rdem t q (age p t x i)

-- the i-th from the last that counts is no younger, so it runs no more inside
inside_left :
    (p q : ℕ) (t : Task) → Spared p q t → (a x : ℕ) (rs : List Release) → History p t rs
    → inside p q t a x rs ≤ sum (counted p t a x rs) (left p q t x)
unfolding rdem curve_of
inside_left p q t s a x [] h = omega arith
inside_left p q t s a x (r ∷ rs) h = go (counts p t a x r) refl (inside_left p q t s a x rs h.2)
  where
    n : ℕ
    n = counted p t a x rs

    here : counts p t a x r ≡ true → runs t q a x r ≤ left p q t x n
    here e =
        let within = counts_within p t a x r e in
        let is = runs_is p q t s a x r h.0 within in
        let most = largest_at (ways t.shape) (λ w. remaining t q w (a - r.tick)) r.way h.0 in
        let after = counted_in_time p t a x (r.tick + p * t.period) rs h.2 h.1 (omega arith) in
        let falls = (constrained_lawful t s.constrained).falls q (age p t x n) (a - r.tick) (omega arith) in
        omega (arith, falls)

    go :
        (b : Bool) → counts p t a x r ≡ b → inside p q t a x rs ≤ sum n (left p q t x)
        → only b (runs t q a x r) + inside p q t a x rs ≤ sum (cond b (suc n) n) (left p q t x)
    go true e later = omega (arith, here e, later)
    go false e later = omega (arith, later)

-- k whole ones, a part, and nothing more
sum_part :
    (n k v b : ℕ) (g : ℕ → ℕ) → ((i : ℕ) → i < k → g i ≤ v) → g k ≤ b → ((i : ℕ) → k < i → g i ≡ 0)
    → sum n g ≤ b + v * k
sum_part zero k v b g whole part none = omega arith
sum_part (suc n) k v b g whole part none =
    elim (decided (ltb n k)) [
      | inl below ↦
          let low = ltb-true n k below in
          let all = sum_le (suc n) v g (λ i l. whole i (omega arith)) in
          omega (arith, all, mul-le-mul_right v low, mul_comm v k)
      | inr from ↦
          elim (eq-or-lt_of_le (ltb-false n k from)) [
            | inl e ↦
                let all = sum_le n v g (λ i l. whole i (omega arith)) in
                let last : g n ≤ b = subst (λ i. g i ≤ b) e part in
                omega (arith, all, last, mul_comm v n, ap (λ i. v * i) e)
            | inr after ↦ omega (arith, sum_part n k v b g whole part none, none n after)
          ]
    ]

-- no history runs more inside than the demand
pub at_most :
    (p q : ℕ) (t : Task) → 0 < p → Spared p q t → (rs : List Release) → History p t rs → (a x : ℕ)
    → inside p q t a x rs ≤ demand p q (curve_of t) x
unfolding curve_of
at_most p q t some s rs h a x =
    let law = constrained_lawful t s.constrained in
    let P = p * t.period in
    let split = mod-add-div x P in
    let broken = mod-lt x (period_some p some law) in
    let over = leb-true (q * len t) (p * t.deadline) s.fit in
    le_trans (inside_left p q t s a x rs h)
    (rw (demand_left p q t s.constrained x)
    (sum_part (counted p t a x rs) (x / P) (rdem t q 0) _ (left p q t x)
    (λ i low. law.falls q 0 (age p t x i) (omega arith))
    (law.falls q _ _ (omega (arith, split)))
    (λ i after. law.over q _ (omega (arith, split, over, broken, mul-le-mul_left P after, mul-suc P (x / P))))))
