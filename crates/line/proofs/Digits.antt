-- How many digits a number takes, and which.
use Prim.Native.Nat.{ℕ, zero, suc, ◌-◌, ◌^◌, ◌≤◌, ◌<◌}
use mathlib.Core.Path.{◌≡◌, sym, ap, subst}
use mathlib.Core.Logic.{inl, inr}
use native.Mathlib.Nat.{pow-le-pow_right, pow-succ', not-suc-le-zero}
use native.Mathlib.Omega.{arith}
use lib.Dec.{ltb}
use borrow.Author.Tests.{ltb-true, ltb-false, lt-ltb, le-ltb}
use Rattle.io.specs.Digits.{last_digits, IsDigitCount}
use Rattle.model.proofs.Ranges.{decided, least_is}
use Rattle.line.specs.Text.{digit_count, decimal}

below_power : (k : ℕ) → k < 10 ^ k
below_power zero = omega arith
below_power (suc k) = omega (arith, below_power k, pow-succ' 10 k)

-- a power of ten within n has an exponent within n
few_behind : (n k : ℕ) → (0 < k → 10 ^ k ≤ n) → k ≤ n
few_behind n zero low = omega arith
few_behind n (suc k) low = omega (arith, below_power (suc k), low (omega arith))

-- the fewest digits that hold n are as many as it takes
fewest_is : (n k : ℕ) → IsDigitCount 10 1 n k → k ≡ digit_count n
unfolding digit_count
fewest_is n zero h = absurd (not-suc-le-zero h.0)
fewest_is n (suc k) h =
    let low : 0 < k → 10 ^ k ≤ n = λ l. subst (λ j. 10 ^ j ≤ n) (omega arith) (h.2 (omega arith)) in
    ap suc
    (sym
    (least_is n (λ j. ltb n (10 ^ suc j)) k (few_behind n k low)
    (λ i l. le-ltb n (10 ^ suc i) (omega (arith, low (omega arith), pow-le-pow_right {n = 10} (omega arith) l)))
    (λ _. lt-ltb n (10 ^ suc k) h.1)))

-- a number of 64 bits takes at most twenty digits
pub at_most_twenty : {n k : ℕ} → n < 2 ^ 64 → IsDigitCount 10 1 n k → k ≤ 20
at_most_twenty {n} {k} fits h =
    elim (decided (ltb 20 k)) [
      | inl a ↦
          let more = ltb-true 20 k a in
          let behind : 20 ≤ k - 1 = omega arith in
          absurd (omega (arith, h.2 (omega arith), pow-le-pow_right {n = 10} (omega arith) behind))
      | inr b ↦ ltb-false 20 k b
    ]

-- the fewest digits of n are n in decimal
pub spelled : {n k : ℕ} → IsDigitCount 10 1 n k → last_digits 10 k n ≡ decimal n
unfolding decimal
spelled {n} {k} fewest = ap (λ j. last_digits 10 j n) (fewest_is n k fewest)
