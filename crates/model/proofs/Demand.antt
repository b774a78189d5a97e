-- Demand of a curve and of a list of curves: what a whole number of periods adds, that it rises, and that relief lowers it.
use Prim.Native.Nat.{ℕ, zero, suc, ◌+◌, ◌-◌, ◌*◌, ◌/◌, ◌%◌, ◌≤◌, ◌<◌, ◌∣◌}
use mathlib.Core.Path.{◌≡◌, refl, sym, ◌∙◌, ap}
use mathlib.Core.Bool.{Bool, true, false, cond}
use mathlib.Core.List.{List, [], ◌∷◌}
use mathlib.Core.Logic.{inl, inr}
use native.Mathlib.Nat.{add-zero, zero-add, eq-or-lt_of_le, le_trans, mul-pos, mul_assoc, mul-add, mul-suc, mul-zero, mul-le-mul, mul-le-mul_left, mul-le-mul_right, mul-div_cancel', zero-div, zero-mod, mod-add-div, add-mul-div_left, add-mul-mod_self_left, sub-eq-zero_of_le, le-div_iff_mul-le, div-mul-le_self}
use native.Mathlib.Omega.{arith}
use lib.Dec.{leb}
use borrow.Author.Tests.{leb-true}
use Rattle.model.specs.Curve.{Curve, fits, part, demand, total, AllFit}
use Rattle.model.specs.Lawful.{Lawful}
use Rattle.model.proofs.Easing.{remains_most, Eased, EasedList, nothing, dropped, kept}
use Rattle.model.proofs.Lists.{Each}
use Rattle.model.proofs.Cycle.{Cycles}

-- One curve

-- the remaining work at 0 is the volume, so the part is the remaining work on either side of the deadline
pub part_is : (p q : ℕ) {c : Curve} → Lawful c → (r : ℕ) → part p q c r ≡ c.remains q (p * c.deadline - r)
unfolding part
part_is p q {c} law r = go (leb (p * c.deadline) r) refl
  where
    go :
        (b : Bool) → leb (p * c.deadline) r ≡ b
        → cond b (q * c.volume) (c.remains q (p * c.deadline - r)) ≡ c.remains q (p * c.deadline - r)
    go true e = sym (law.whole q) ∙ ap (c.remains q) (sym (sub-eq-zero_of_le (leb-true (p * c.deadline) r e)))
    go false e = refl

-- demand without the case split
pub demand_is :
    (p q : ℕ) {c : Curve} → Lawful c → (x : ℕ)
    → demand p q c x ≡ q * c.volume * (x / (p * c.period)) + c.remains q (p * c.deadline - x % (p * c.period))
unfolding demand
demand_is p q {c} law x = ap (λ a. q * c.volume * (x / (p * c.period)) + a) (part_is p q law (x % (p * c.period)))

-- a period has ticks
pub period_some : (p : ℕ) {c : Curve} → 0 < p → Lawful c → 0 < p * c.period
period_some p some law = mul-pos some (le_trans law.some law.constrained)

-- each further period adds the volume
pub demand_periods :
    (p q : ℕ) {c : Curve} → 0 < p → Lawful c → (x k : ℕ)
    → demand p q c (x + p * c.period * k) ≡ demand p q c x + q * c.volume * k
unfolding demand
demand_periods p q {c} some law x k =
    rw (add-mul-div_left x k (period_some p some law), add-mul-mod_self_left x (p * c.period) k)
    (omega (arith, mul-add (q * c.volume) (x / (p * c.period)) k))

-- what fits its deadline asks nothing at once
pub demand_zero : (p q : ℕ) {c : Curve} → Lawful c → fits p q c ≡ true → demand p q c 0 ≡ 0
demand_zero p q {c} law fit =
    demand_is p q law 0
    ∙ rw (zero-div (p * c.period), zero-mod (p * c.period))
    (omega (arith, law.over q (p * c.deadline - 0) (omega (arith, leb-true (q * c.length) (p * c.deadline) fit))))

-- Two ticks, two curves

-- fewer whole periods make up for a fuller broken one: v is the work of a period, k how many are whole, a and b the broken ones
pub relief : {v' v k' k a b : ℕ} → v' ≤ v → k' ≤ k → a ≤ v' → (k' ≡ k → a ≤ b) → v' * k' + a ≤ v * k + b
relief {v'} {v} {k'} {k} {a} {b} le few small same =
    elim (eq-or-lt_of_le few) [
      | inl e ↦ omega (arith, mul-le-mul le few, same e)
      | inr l ↦ omega (arith, mul-le-mul le l, mul-suc v' k')
    ]

-- a later tick or a shorter period, and the whole periods are no fewer
more_periods : {P P' x y : ℕ} → 0 < P → P ≤ P' → x ≤ y → x / P' ≤ y / P
more_periods {P} {P'} {x} {y} some le later =
    (le-div_iff_mul-le some).1 (le_trans (mul-le-mul_left (x / P') le) (le_trans (div-mul-le_self x P') later))

-- .. and as many whole periods leave no less of the broken one
more_broken : {P P' x y : ℕ} → P ≤ P' → x ≤ y → x / P' ≡ y / P → x % P' ≤ y % P
more_broken {P} {P'} {x} {y} le later same =
    omega (arith, mod-add-div x P', mod-add-div y P, mul-le-mul_right (x / P') le, ap (λ k. P * k) same)

-- an eased curve asks no more, nor does it at an earlier tick
pub demand_relieved :
    (p q : ℕ) {c d : Curve} → 0 < p → Lawful c → Lawful d → Eased c d → (x y : ℕ) → x ≤ y
    → demand p q d x ≤ demand p q c y
demand_relieved p q {c} {d} some lc ld e x y later =
    rw (demand_is p q ld x, demand_is p q lc y)
    (relief (mul-le-mul_left q e.volume) (more_periods (period_some p some lc) longer later)
    (remains_most q ld (due d x))
    (λ same.
    le_trans
    (ld.falls q (due c y) (due d x) (omega (arith, more_broken longer later same, mul-le-mul_left p e.deadline)))
    (e.remains q (due c y))))
  where
    -- how far the deadline of the broken period still is
    due : Curve → ℕ → ℕ
    due k z = p * k.deadline - z % (p * k.period)

    longer : p * c.period ≤ p * d.period
    longer = mul-le-mul_left p e.period

-- nothing changed is eased too, so that demand rises is a case of it
pub eased_self : (c : Curve) → Eased c c
eased_self c = record { deadline = omega arith; period = omega arith; length = omega arith; volume = omega arith; remains = λ q x. omega arith }

-- Lists of curves

-- the same two of a list
total_relieved :
    (p q : ℕ) → 0 < p → {old new : List Curve} → EasedList old new → Each Lawful old → Each Lawful new → (x y : ℕ) → x ≤ y
    → total p q new x ≤ total p q old y
total_relieved p q some nothing lo ln x y later = omega arith
total_relieved p q some (dropped eased) lo ln x y later =
    let rest = total_relieved p q some eased lo.1 ln x y later in omega arith
total_relieved p q some (kept e eased) lo ln x y later =
    let rest = total_relieved p q some eased lo.1 ln.1 x y later in
    let here = demand_relieved p q some lo.0 ln.0 e x y later in
    omega arith

pub eased_all : (cs : List Curve) → EasedList cs cs
eased_all [] = nothing
eased_all (c ∷ cs) = kept (eased_self c) (eased_all cs)

pub total_rises : (p q : ℕ) (cs : List Curve) → 0 < p → Each Lawful cs → {x y : ℕ} → x ≤ y → total p q cs x ≤ total p q cs y
total_rises p q cs some laws {x} {y} later = total_relieved p q some (eased_all cs) laws laws x y later

pub total_eased :
    (p q : ℕ) → 0 < p → {old new : List Curve} → EasedList old new → Each Lawful old → Each Lawful new → (x : ℕ)
    → total p q new x ≤ total p q old x
total_eased p q some eased lo ln x = total_relieved p q some eased lo ln x x (omega arith)

-- a common multiple h of the periods adds its own demand to what came before
demand_cycle :
    (p q h : ℕ) {c : Curve} → 0 < p → Lawful c → c.period ∣ h → fits p q c ≡ true → (x : ℕ)
    → demand p q c (x + p * h) ≡ demand p q c x + demand p q c (p * h)
demand_cycle p q h {c} some law divides fit x =
    omega (arith, after x, after 0, demand_zero p q law fit, ap (demand p q c) (zero-add (p * h)))
  where
    whole : p * h ≡ p * c.period * (h / c.period)
    whole = ap (λ n. p * n) (sym (mul-div_cancel' c.period divides)) ∙ sym (mul_assoc p c.period (h / c.period))

    after : (y : ℕ) → demand p q c (y + p * h) ≡ demand p q c y + q * c.volume * (h / c.period)
    after y = ap (λ n. demand p q c (y + n)) whole ∙ demand_periods p q some law y (h / c.period)

pub total_cycles :
    (p q h : ℕ) (cs : List Curve) → 0 < p → Each Lawful cs → Cycles h cs → AllFit p q cs → (x : ℕ)
    → total p q cs (x + p * h) ≡ total p q cs x + total p q cs (p * h)
total_cycles p q h [] some laws divide fit x = omega arith
total_cycles p q h (c ∷ cs) some laws divide fit x =
    let here = demand_cycle p q h some laws.0 divide.0 fit.0 x in
    let rest = total_cycles p q h cs some laws.1 divide.1 fit.1 x in
    omega arith

-- .. and any number of them
pub total_many :
    (p q h : ℕ) (cs : List Curve) → 0 < p → Each Lawful cs → Cycles h cs → AllFit p q cs → (x k : ℕ)
    → total p q cs (x + p * h * k) ≡ total p q cs x + total p q cs (p * h) * k
total_many p q h cs some laws divide fit x zero =
    rw (mul-zero (p * h), mul-zero (total p q cs (p * h)), add-zero x) (omega arith)
total_many p q h cs some laws divide fit x (suc k) =
    let again : x + p * h * suc k ≡ x + p * h * k + p * h = omega (arith, mul-suc (p * h) k) in
    let more = total_cycles p q h cs some laws divide fit (x + p * h * k) in
    let before = total_many p q h cs some laws divide fit x k in
    omega (arith, ap (total p q cs) again, mul-suc (total p q cs (p * h)) k)
