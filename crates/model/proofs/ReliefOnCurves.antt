-- Relief on curves: eased curves on no fewer processors stay accepted, and an overrun comes no sooner or goes.
use Prim.Native.Nat.{ℕ, zero, suc, ◌+◌, ◌-◌, ◌*◌, ◌≤◌, ◌<◌}
use mathlib.Core.Path.{◌≡◌, refl, sym, ◌∙◌, ap}
use mathlib.Core.Bool.{true, false}
use mathlib.Core.List.{List}
use mathlib.Core.Logic.{◌⊎◌, inl, inr}
use native.Mathlib.Nat.{le_trans, add-sub_of_le, le_of_suc-le-suc, not-suc-le-zero, add-mul, suc-mul, mul-le-mul_left, mul-le-mul_right}
use native.Mathlib.Omega.{arith}
use borrow.Author.Tests.{leb-true, le-leb}
use Rattle.model.specs.Curve.{Curve, fits, bound, overruns, AllFit, Outcome, accepted, overrun, Verdict, accepts, refuses, names}
use Rattle.model.specs.Lawful.{Lawful}
use Rattle.model.proofs.Easing.{Eased, EasedList, nothing, dropped, kept}
use Rattle.model.proofs.Lists.{Each}
use Rattle.model.proofs.Demand.{total_eased}
use Rattle.model.proofs.Verdicts.{within, within_test, fit_not_dense, first_le}

-- each further processor adds q - p to the bound
one_less : (n p : ℕ) → (suc n - 1) * p ≡ n * p
one_less n p = ap (λ k. k * p) (omega arith)

pub bound_rises : (m m' p q : ℕ) → p ≤ q → m ≤ m' → bound m p q ≤ bound m' p q
bound_rises zero m' p q le more = omega arith
bound_rises (suc m) zero p q le more = absurd (not-suc-le-zero more)
bound_rises (suc m) (suc n) p q le more =
    omega (arith, one_less m p, one_less n p, suc-mul m q, suc-mul n q, added p, added q, mul-le-mul_left (n - m) le)
  where
    added : (s : ℕ) → n * s ≡ m * s + (n - m) * s
    added s = ap (λ k. k * s) (sym (add-sub_of_le (le_of_suc-le-suc more))) ∙ add-mul m (n - m) s

-- what fits goes on to fit
pub fits_eased : (p q : ℕ) {c d : Curve} → Eased c d → fits p q c ≡ true → fits p q d ≡ true
fits_eased p q {c} {d} e fit =
    le-leb (q * d.length) (p * d.deadline) (omega (arith, leb-true (q * c.length) (p * c.deadline) fit, mul-le-mul_left q e.length, mul-le-mul_left p e.deadline))

pub all_fit_eased : (p q : ℕ) {old new : List Curve} → EasedList old new → AllFit p q old → AllFit p q new
all_fit_eased p q nothing fit = tt
all_fit_eased p q (dropped eased) fit = all_fit_eased p q eased fit.1
all_fit_eased p q (kept e eased) fit = (fits_eased p q e fit.0, all_fit_eased p q eased fit.1)

-- a tick within the bound stays within
stays :
    {m m' : ℕ} (p q : ℕ) → 0 < p → p ≤ q → m ≤ m' → {old new : List Curve} → EasedList old new → Each Lawful old
    → Each Lawful new → (x : ℕ) → overruns m p q old x ≡ false → overruns m' p q new x ≡ false
stays {m} {m'} p q some le more {old} {new} eased lo ln x fine =
    within_test m' p q new x
    (le_trans (mul-le-mul_left p (total_eased p q some eased lo ln x))
    (le_trans (within m p q old x fine) (mul-le-mul_right x (bound_rises m m' p q le more))))

-- what is accepted stays accepted
pub relief_accepts :
    {m m' : ℕ} (p q : ℕ) → 0 < p → p ≤ q → m ≤ m' → {old new : List Curve} → EasedList old new → Each Lawful old
    → Each Lawful new → Verdict m p q old accepted → Verdict m' p q new accepted
relief_accepts p q some le more eased lo ln (accepts fit fine) =
    accepts (all_fit_eased p q eased fit) (λ x. stays p q some le more eased lo ln x (fine x))

-- an overrun goes, or comes no sooner
pub relief_later :
    {m m' : ℕ} (p q : ℕ) → 0 < p → p ≤ q → m ≤ m' → {old new : List Curve} → EasedList old new → Each Lawful old
    → Each Lawful new → {x w : ℕ} {o : Outcome} → Verdict m p q old (overrun x w) → Verdict m' p q new o
    → (o ≡ accepted) ⊎ ((x' : ℕ) × (w' : ℕ) × (o ≡ overrun x' w') × (x ≤ x'))
relief_later p q some le more eased lo ln was (accepts fit fine) = inl refl
relief_later p q some le more {new = new} eased lo ln (names x w fit over before e) (refuses i first) =
    absurd (fit_not_dense p q new i (all_fit_eased p q eased fit) first)
relief_later {m' = m'} p q some le more {new = new} eased lo ln (names x w fit over before e) (names x' w' fit' over' before' e') =
    inr (x', w', refl, first_le (overruns m' p q new) x x' (λ y l. stays p q some le more eased lo ln y (before y l)) over')
