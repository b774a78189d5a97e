-- Verdicts on a list of curves: there is one, a common cycle decides it, and a judge that finds it by a search of that cycle.
use Prim.Native.Nat.{ℕ, zero, suc, ◌+◌, ◌*◌, ◌/◌, ◌%◌, ◌≤◌, ◌<◌}
use mathlib.Core.Path.{◌≡◌, refl, sym, ◌∙◌, ap, ap₂, subst}
use mathlib.Core.Bool.{Bool, true, false, cond}
use mathlib.Core.List.{List, [], ◌∷◌}
use mathlib.Core.Logic.{inl, inr, ◌↔◌}
use native.Mathlib.Nat.{mul-pos, mul_assoc, mul-add, mul-le-mul_right, mod-add-div, mod-lt, not-suc-le-zero}
use native.Mathlib.Omega.{arith}
use lib.Dec.{ltb}
use lib.ListN.{length}
use borrow.Author.Tests.{ltb-true, ltb-false, le-ltb}
use Rattle.model.specs.Curve.{Curve, fits, total, bound, overruns, AllFit, FirstDense, Outcome, accepted, dense, overrun, Verdict, accepts, refuses, names}
use Rattle.model.specs.Range.{least}
use Rattle.model.specs.Lawful.{Lawful}
use Rattle.model.proofs.Ranges.{not_both, decided, least_before, least_has}
use Rattle.model.proofs.Lists.{Each}
use Rattle.model.proofs.Cycle.{Cycles}
use Rattle.model.proofs.Demand.{total_many}

-- the test of a tick, as an order
pub within : (m p q : ℕ) (cs : List Curve) (x : ℕ) → overruns m p q cs x ≡ false → p * total p q cs x ≤ bound m p q * x
unfolding overruns
within m p q cs x e = ltb-false (bound m p q * x) (p * total p q cs x) e

pub within_test : (m p q : ℕ) (cs : List Curve) (x : ℕ) → p * total p q cs x ≤ bound m p q * x → overruns m p q cs x ≡ false
unfolding overruns
within_test m p q cs x h = le-ltb (bound m p q * x) (p * total p q cs x) h

-- One verdict

-- a first dense curve and no dense curve, or two first ones that differ, are against each other
pub fit_not_dense : (p q : ℕ) (cs : List Curve) (i : ℕ) → AllFit p q cs → FirstDense p q cs i → ⊥
fit_not_dense p q [] i fit first = first
fit_not_dense p q (c ∷ cs) zero fit first = not_both (fits p q c) fit.0 first
fit_not_dense p q (c ∷ cs) (suc i) fit first = fit_not_dense p q cs i fit.1 first.1

first_once : (p q : ℕ) (cs : List Curve) (i j : ℕ) → FirstDense p q cs i → FirstDense p q cs j → i ≡ j
first_once p q [] i j a b = absurd a
first_once p q (c ∷ cs) zero zero a b = refl
first_once p q (c ∷ cs) zero (suc j) a b = absurd (not_both (fits p q c) b.0 a)
first_once p q (c ∷ cs) (suc i) zero a b = absurd (not_both (fits p q c) a.0 b)
first_once p q (c ∷ cs) (suc i) (suc j) a b = ap suc (first_once p q cs i j a.1 b.1)

-- the first number that has a test is no later than any that has it
pub first_le : (f : ℕ → Bool) (x y : ℕ) → ((z : ℕ) → z < x → f z ≡ false) → f y ≡ true → x ≤ y
first_le f x y before has =
    elim (decided (ltb y x)) [
      | inl l ↦ absurd (not_both (f y) has (before y (ltb-true y x l)))
      | inr g ↦ ltb-false y x g
    ]

-- two verdicts on one list are equal
pub verdict_once : {m p q : ℕ} {cs : List Curve} {o o' : Outcome} → Verdict m p q cs o → Verdict m p q cs o' → o ≡ o'
verdict_once (accepts fit fine) (accepts fit' fine') = refl
verdict_once {p = p} {q = q} {cs = cs} (accepts fit fine) (refuses i first) = absurd (fit_not_dense p q cs i fit first)
verdict_once {m} {p} {q} {cs} (accepts fit fine) (names x w fit' over before e) =
    absurd (not_both (overruns m p q cs x) over (fine x))
verdict_once {p = p} {q = q} {cs = cs} (refuses i first) (accepts fit fine) = absurd (fit_not_dense p q cs i fit first)
verdict_once {p = p} {q = q} {cs = cs} (refuses i first) (refuses j first') = ap dense (first_once p q cs i j first first')
verdict_once {p = p} {q = q} {cs = cs} (refuses i first) (names x w fit over before e) = absurd (fit_not_dense p q cs i fit first)
verdict_once {m} {p} {q} {cs} (names x w fit over before e) (accepts fit' fine) =
    absurd (not_both (overruns m p q cs x) over (fine x))
verdict_once {p = p} {q = q} {cs = cs} (names x w fit over before e) (refuses i first) = absurd (fit_not_dense p q cs i fit first)
verdict_once {m} {p} {q} {cs} (names x w fit over before e) (names x' w' fit' over' before' e') =
    let same : x ≡ x' = omega (arith, first_le (overruns m p q cs) x x' before over', first_le (overruns m p q cs) x' x before' over) in
    ap₂ overrun same (e ∙ ap (total p q cs) same ∙ sym e')

-- what acceptance says
pub accepted_exactly :
    {m p q : ℕ} {cs : List Curve} → Verdict m p q cs accepted ↔ (AllFit p q cs × ((x : ℕ) → overruns m p q cs x ≡ false))
accepted_exactly {m} {p} {q} {cs} = (open_up, λ both. accepts both.0 both.1)
  where
    open_up : Verdict m p q cs accepted → AllFit p q cs × ((x : ℕ) → overruns m p q cs x ≡ false)
    open_up (accepts fit fine) = (fit, fine)

-- A common cycle is enough

-- two intervals within the bound, the second any number of times
repeated : (p b w r w' n k : ℕ) → p * w ≤ b * r → p * w' ≤ b * n → p * (w + w' * k) ≤ b * (r + n * k)
repeated p b w r w' n k rest cycle =
    omega (arith, mul-add p w (w' * k), mul-add b r (n * k), mul_assoc p w' k, mul_assoc b n k, mul-le-mul_right k cycle)

-- no overrun within the cycle h, none at all. With h = 0 nothing would have been looked at, so h is positive
pub cycle_enough :
    (m p q h : ℕ) (cs : List Curve) → 0 < p → 0 < h → Each Lawful cs → Cycles h cs → AllFit p q cs
    → ((x : ℕ) → x ≤ p * h → overruns m p q cs x ≡ false) → (x : ℕ) → overruns m p q cs x ≡ false
cycle_enough m p q h cs some some_cycle laws divide fit fine x =
    subst (λ y. overruns m p q cs y ≡ false) (mod-add-div x (p * h))
    (within_test m p q cs (x % (p * h) + p * h * (x / (p * h)))
    (rw (total_many p q h cs some laws divide fit (x % (p * h)) (x / (p * h)))
    (repeated p (bound m p q) (total p q cs (x % (p * h))) (x % (p * h)) (total p q cs (p * h)) (p * h) (x / (p * h))
    (fits_at_lem (x % (p * h)) (omega (arith, mod-lt x (mul-pos some some_cycle)))) (fits_at_lem (p * h) (omega arith)))))
  where
    fits_at_lem : (y : ℕ) → y ≤ p * h → p * total p q cs y ≤ bound m p q * y
    fits_at_lem y le = within m p q cs y (fine y le)

-- the overrun that is named lies within the cycle
pub overrun_within :
    (m p q h : ℕ) (cs : List Curve) → 0 < p → 0 < h → Each Lawful cs → Cycles h cs → {x w : ℕ}
    → Verdict m p q cs (overrun x w) → x ≤ p * h
overrun_within m p q h cs some some_cycle laws divide (names x w fit over before e) =
    elim (decided (ltb (p * h) x)) [
      | inl l ↦
          absurd (not_both (overruns m p q cs x) over
          (cycle_enough m p q h cs some some_cycle laws divide fit (λ y le. before y (omega (arith, ltb-true (p * h) x l))) x))
      | inr g ↦ ltb-false (p * h) x g
    ]

-- The judge

-- how many curves fit before the first that does not
abbrev pub fitting : ℕ → ℕ → List Curve → ℕ
fitting p q [] = 0
fitting p q (c ∷ cs) = let more = suc (fitting p q cs) in cond (fits p q c) more 0

-- the first curve that does not fit, else the first overrun within the cycle h, else accepted
unfoldable pub found : ℕ → ℕ → ℕ → List Curve → ℕ → Outcome
found m p q cs h =
    let i = fitting p q cs in
    let x = least (suc (p * h)) (overruns m p q cs) in
    let over = overrun x (total p q cs x) in
    let fit = cond (ltb x (suc (p * h))) over accepted in
    cond (ltb i (length cs)) (dense i) fit

-- it is the index of that curve, or the length where all fit
pub fitting_first : (p q : ℕ) (cs : List Curve) → fitting p q cs < length cs → FirstDense p q cs (fitting p q cs)
fitting_first p q [] lt = absurd (not-suc-le-zero lt)
fitting_first p q (c ∷ cs) lt = go (fits p q c) refl (λ l. fitting_first p q cs l) lt
  where
    go :
        (b : Bool) → fits p q c ≡ b → (fitting p q cs < length cs → FirstDense p q cs (fitting p q cs))
        → cond b (suc (fitting p q cs)) 0 < suc (length cs) → FirstDense p q (c ∷ cs) (cond b (suc (fitting p q cs)) 0)
    go true e ih l = (e, ih (omega arith))
    go false e ih l = e

pub fitting_all : (p q : ℕ) (cs : List Curve) → length cs ≤ fitting p q cs → AllFit p q cs
fitting_all p q [] le = tt
fitting_all p q (c ∷ cs) le = go (fits p q c) refl (λ l. fitting_all p q cs l) le
  where
    go :
        (b : Bool) → fits p q c ≡ b → (length cs ≤ fitting p q cs → AllFit p q cs)
        → suc (length cs) ≤ cond b (suc (fitting p q cs)) 0 → AllFit p q (c ∷ cs)
    go true e ih l = (e, ih (omega arith))
    go false e ih l = absurd (not-suc-le-zero l)

-- what the judge finds is the verdict
pub found_is :
    (m p q h : ℕ) (cs : List Curve) → 0 < p → 0 < h → Each Lawful cs → Cycles h cs
    → Verdict m p q cs (found m p q cs h)
unfolding found
found_is m p q h cs some some_cycle laws divide =
    go (ltb (fitting p q cs) (length cs)) refl (ltb x (suc (p * h))) refl
  where
    x : ℕ
    x = least (suc (p * h)) (overruns m p q cs)

    go :
        (a : Bool) → ltb (fitting p q cs) (length cs) ≡ a → (b : Bool) → ltb x (suc (p * h)) ≡ b
        → Verdict m p q cs (cond a (dense (fitting p q cs)) (cond b (overrun x (total p q cs x)) accepted))
    go true e b d = refuses (fitting p q cs) (fitting_first p q cs (ltb-true (fitting p q cs) (length cs) e))
    go false e true d =
        names x (total p q cs x) (fitting_all p q cs (ltb-false (fitting p q cs) (length cs) e))
        (least_has (suc (p * h)) (overruns m p q cs) (ltb-true x (suc (p * h)) d))
        (least_before (suc (p * h)) (overruns m p q cs)) refl
    go false e false d =
        let fit = fitting_all p q cs (ltb-false (fitting p q cs) (length cs) e) in
        accepts fit
        (cycle_enough m p q h cs some some_cycle laws divide fit
        (λ y le. least_before (suc (p * h)) (overruns m p q cs) y (omega (arith, ltb-false x (suc (p * h)) d))))
