-- Demand on a finer grid: n times ours at our ticks, and on or below its chord between them.
use Prim.Native.Nat.{ℕ, suc, ◌+◌, ◌-◌, ◌*◌, ◌/◌, ◌%◌, ◌≤◌, ◌<◌}
use mathlib.Core.Path.{◌≡◌, refl, sym, ◌∙◌, ap}
use mathlib.Core.Bool.{true}
use mathlib.Core.List.{List, [], ◌∷◌}
use mathlib.Core.Logic.{inl, inr}
use native.Mathlib.Nat.{add-zero, mul-add, mul_assoc, mul-suc, mul-sub, mul-le-mul_left, le_of_mul-le-mul_left, mul-pos, eq-or-lt_of_le, mod-add-div, mod-lt, div-eq_of_lt, mod-eq_of_lt}
use native.Mathlib.Omega.{arith}
use lib.Dec.{leb}
use borrow.Author.Tests.{leb-true, leb-false, le-leb}
use Rattle.model.specs.Realization.{Task}
use Rattle.model.specs.Curve.{Curve, curve_of, fits, demand, total, AllFit}
use Rattle.model.specs.Lawful.{Lawful}
use Rattle.model.proofs.Ranges.{decided, same_test}
use Rattle.model.proofs.Lists.{Each}
use Rattle.model.proofs.Demand.{demand_is, demand_periods, demand_zero, period_some}
use Rattle.histories.proofs.Chord.{Chord, level_chord, add_chord, rdem_multiple, rdem_chord}

-- What a cut of our ticks into n parts keeps of a curve, at our q.
pub record Cut (n q : ℕ) (c : Curve) : Type 0 where
  pub multiple : (x : ℕ) → c.remains (n * q) (n * x) ≡ n * c.remains q x
  pub chord : Chord n (c.remains (n * q))

pub task_cut : (n q : ℕ) (t : Task) → Cut n q (curve_of t)
unfolding curve_of
task_cut n q t = record { multiple = rdem_multiple t n q; chord = rdem_chord t n q }

-- number 8 is the same
pub fits_finer : (n p q : ℕ) (c : Curve) → 0 < n → fits (n * p) (n * q) c ≡ fits p q c
fits_finer n p q c some =
    same_test (fits (n * p) (n * q) c) (fits p q c)
    (λ h.
    let low = leb-true (n * q * c.length) (n * p * c.deadline) h in
    le-leb (q * c.length) (p * c.deadline) (le_of_mul-le-mul_left {k = n} (omega (arith, ours)) some))
    (λ h.
    let low = mul-le-mul_left n (leb-true (q * c.length) (p * c.deadline) h) in
    le-leb (n * q * c.length) (n * p * c.deadline) (omega (arith, ours)))
  where
    ours : (n * q * c.length ≡ n * (q * c.length)) × (n * p * c.deadline ≡ n * (p * c.deadline))
    ours = (mul_assoc n q c.length, mul_assoc n p c.deadline)

-- k whole periods and s ticks more, up to a whole one
demand_at_lem :
    (p q : ℕ) {c : Curve} → 0 < p → Lawful c → fits p q c ≡ true → (k s : ℕ) → s ≤ p * c.period
    → demand p q c (s + p * c.period * k) ≡ q * c.volume * k + c.remains q (p * c.deadline - s)
demand_at_lem p q {c} some law fit k s low = demand_periods p q some law s k ∙ omega (arith, first)
  where
    first : demand p q c s ≡ c.remains q (p * c.deadline - s)
    first =
        elim (eq-or-lt_of_le low) [
          | inl e ↦
              let all : p * c.deadline - s ≡ 0 = omega (arith, mul-le-mul_left p law.constrained) in
              let one : s ≡ 0 + p * c.period * 1 = omega arith in
              ap (demand p q c) one
              ∙ demand_periods p q some law 0 1
              ∙ omega (arith, demand_zero p q law fit, ap (c.remains q) all, law.whole q)
          | inr l ↦ demand_is p q law s ∙ rw (div-eq_of_lt l, mod-eq_of_lt l) (omega arith)
        ]

-- a curve that fits, cut into n parts
module _ (n p q : ℕ) {c : Curve} (parts : 0 < n) (some : 0 < p) (law : Lawful c) (fit : fits p q c ≡ true)
    (cut : Cut n q c) where
  abbrev P : ℕ
  P = p * c.period

  abbrev D : ℕ
  D = p * c.deadline

  -- what is left of a release whose deadline is in time by r ticks of ours and z parts of one
  abbrev left : ℕ → ℕ → ℕ
  left r z = c.remains (n * q) (n * D - (n * r + z))

  -- the finer demand at tick x of ours and z parts: the whole periods, and what is left
  finer_at : (x z : ℕ) → z ≤ n → demand (n * p) (n * q) c (n * x + z) ≡ n * q * c.volume * (x / P) + left (x % P) z
  finer_at x z low =
      ap (demand (n * p) (n * q) c) (omega (arith, split, period))
      ∙ demand_at_lem (n * p) (n * q) (mul-pos parts some) law (fits_finer n p q c parts ∙ fit) k (n * r + z) (omega (arith, broken))
      ∙ ap (λ d. n * q * c.volume * k + c.remains (n * q) (d - (n * r + z))) (mul_assoc n p c.deadline)
    where
      k : ℕ
      k = x / P

      r : ℕ
      r = x % P

      period : n * p * c.period * k ≡ n * (P * k)
      period = ap (λ d. d * k) (mul_assoc n p c.period) ∙ mul_assoc n P k

      split : n * x ≡ n * r + n * (P * k)
      split = ap (λ y. n * y) (sym (mod-add-div x P)) ∙ mul-add n r (P * k)

      broken : n * r + n ≤ n * p * c.period
      broken = omega (arith, mul_assoc n p c.period, mul-le-mul_left n (mod-lt x (period_some p some law)), mul-suc n r)

  finer_first : (x : ℕ) → demand (n * p) (n * q) c (n * x) ≡ n * q * c.volume * (x / P) + left (x % P) 0
  finer_first x = ap (demand (n * p) (n * q) c) (sym (add-zero (n * x))) ∙ finer_at x 0 (omega arith)

  -- at our ticks it is n times ours
  demand_multiple : (x : ℕ) → demand (n * p) (n * q) c (n * x) ≡ n * demand p q c x
  demand_multiple x =
      let ours = ap (λ d. n * d) (demand_is p q law x) in
      finer_first x ∙ omega (arith, whole, part, ours, mul-add n (q * c.volume * k) (c.remains q (D - r)))
    where
      k : ℕ
      k = x / P

      r : ℕ
      r = x % P

      whole : n * q * c.volume * k ≡ n * (q * c.volume * k)
      whole = ap (λ v. v * k) (mul_assoc n q c.volume) ∙ mul_assoc n (q * c.volume) k

      part : left r 0 ≡ n * c.remains q (D - r)
      part = ap (c.remains (n * q)) (omega (arith, mul-sub n D r)) ∙ cut.multiple (D - r)

  -- what is left rises as the deadline comes nearer, on or below the chord: that of the remaining work, from its other end
  left_chord : (r i j : ℕ) → i + j ≡ n → n * left r j ≤ i * left r 0 + j * left r n
  left_chord r i j whole =
      elim (decided (leb D r)) [
        | inl past ↦
            let by = mul-le-mul_left n (leb-true D r past) in
            let all : (z : ℕ) → left r z ≡ c.remains (n * q) 0 = λ z. ap (c.remains (n * q)) (omega arith) in
            level_chord n i j whole (c.remains (n * q) 0) (all 0) (all j) (all n)
        | inr ahead ↦
            let y = D - suc r in
            let far : D ≡ suc r + y = omega (arith, leb-false D r ahead) in
            let ticks : n * D ≡ n * r + n + n * y = ap (λ d. n * d) far ∙ mul-add n (suc r) y ∙ omega (arith, mul-suc n r) in
            let from : (z k : ℕ) → z + k ≡ n → left r z ≡ c.remains (n * q) (n * y + k) =
            λ z k e. ap (c.remains (n * q)) (omega arith) in
            let last : left r n ≡ c.remains (n * q) (n * y) = ap (c.remains (n * q)) (omega arith) in
            rw (from j i (omega (arith, whole)), from 0 n (omega arith), last)
            (omega (arith, cut.chord y j i (omega (arith, whole))))
      ]

  -- so does the demand
  demand_chord : Chord n (demand (n * p) (n * q) c)
  demand_chord x i j whole =
      let r = x % P in
      let K = n * q * c.volume * (x / P) in
      rw (finer_at x j (omega (arith, whole)), finer_first x, finer_at x n (omega arith))
      (omega (
        arith,
        left_chord r i j whole,
        level_chord n i j whole K refl refl refl,
        mul-add n K (left r j),
        mul-add i K (left r 0),
        mul-add j K (left r n),
      ))

-- A list of curves

module _ (n p q : ℕ) (parts : 0 < n) (some : 0 < p) where
  pub total_multiple :
      (cs : List Curve) → Each Lawful cs → AllFit p q cs → Each (Cut n q) cs → (x : ℕ)
      → total (n * p) (n * q) cs (n * x) ≡ n * total p q cs x
  total_multiple [] laws fit cut x = omega arith
  total_multiple (c ∷ cs) laws fit cut x =
      let here = demand_multiple n p q parts some laws.0 fit.0 cut.0 x in
      let rest = total_multiple cs laws.1 fit.1 cut.1 x in
      omega (arith, mul-add n (demand p q c x) (total p q cs x))

  pub total_chord :
      (cs : List Curve) → Each Lawful cs → AllFit p q cs → Each (Cut n q) cs → Chord n (total (n * p) (n * q) cs)
  total_chord [] laws fit cut = λ x i j whole. level_chord n i j whole 0 refl refl refl
  total_chord (c ∷ cs) laws fit cut =
      add_chord n (demand (n * p) (n * q) c) (total (n * p) (n * q) cs)
      (demand_chord n p q parts some laws.0 fit.0 cut.0) (total_chord cs laws.1 fit.1 cut.1)
