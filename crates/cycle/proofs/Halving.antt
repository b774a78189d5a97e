-- The greatest common divisor by halving and subtracting: factors of two that both numbers have are factors of it, others are not, and
-- two numbers have the divisors that the smaller and the gap have. Each law goes through what the greatest common divisor is.
use Prim.Native.Nat.{ℕ, zero, suc, ◌+◌, ◌-◌, ◌*◌, ◌/◌, ◌%◌, ◌^◌, ◌≤◌, ◌<◌, ◌∣◌, min, max}
use mathlib.Core.Path.{◌≡◌, refl, sym, ◌∙◌, ap, ap₂}
use mathlib.Core.Logic.{inl, inr}
use native.Mathlib.Nat.{one-mul, mul_comm, mul_assoc, mul-add, mul-one, div-one, div-div-eq-div-mul, pow-succ', eq-zero-or-pos, lt_of_not-le, min-eq_left, min-eq_right, mul-le-mul_right}
use native.Mathlib.Nat.{dvd_refl, dvd_trans, dvd-add_iff_right, dvd-sub_iff_left, dvd-mul_left, dvd-mul_left_of_dvd, mul-dvd-mul_left, mod-eq-zero_of_dvd, dvd_of_mod-eq-zero}
use native.Mathlib.Omega.{arith}
use lib.Count.{count_trailing_zeros, under, count_leading_zeros, leading_top, leading_length}
use lib.Dec.{leb}
use lib.Pow.{pow_pos, pow_mono, pow-add}
use borrow.Author.Tests.{leb-true, leb-false}
use Rattle.model.specs.Curve.{divisor}
use Rattle.model.proofs.Ranges.{decided}
use Rattle.model.proofs.Divisor.{divisor_is, divisor_once, divisor_scales}

-- an odd divisor of twice a number divides the number: k times the number is the double taken k / 2 times, and the number once more
odd_halves : (k a : ℕ) → k % 2 ≡ 1 → k ∣ 2 * a → k ∣ a
odd_halves k a odd d =
    (dvd-add_iff_right k (dvd-mul_left_of_dvd k d (k / 2))).1 (rw whole (dvd-mul_left k a))
  where
    whole : k / 2 * (2 * a) + a ≡ a * k
    whole =
        let half : k ≡ k / 2 * 2 + 1 = omega arith in
        ap (λ x. x + a) (sym (mul_assoc (k / 2) 2 a) ∙ mul_comm (k / 2 * 2) a) ∙ ap (λ x. a * (k / 2 * 2) + x) (sym (mul-one a))
        ∙ sym (mul-add a (k / 2 * 2) 1) ∙ ap (λ x. a * x) (sym half)

-- a divisor of an odd number is odd
divides_odd : (k b : ℕ) → b % 2 ≡ 1 → k ∣ b → k % 2 ≡ 1
divides_odd k b odd d =
    elim (eq-zero-or-pos (k % 2)) [
      | inl even ↦ absurd (omega (arith, mod-eq-zero_of_dvd 2 (dvd_trans 2 (dvd_of_mod-eq-zero 2 even) d)))
      | inr some ↦ omega arith
    ]

pub divisor_swapped : (a b : ℕ) → divisor a b ≡ divisor b a
divisor_swapped a b =
    let is = divisor_is b a in
    divisor_once (divisor_is a b) (record { left = is.right; right = is.left; greatest = λ k p q. is.greatest k q p })

pub divisor_same : (a : ℕ) → divisor a a ≡ a
divisor_same a =
    divisor_once (divisor_is a a) (record { left = dvd_refl a; right = dvd_refl a; greatest = λ k p q. p })

-- one factor of two more
doubled : (t a : ℕ) → 2 ^ suc t * a ≡ 2 * (2 ^ t * a)
doubled t a = ap (λ x. x * a) (pow-succ' 2 t) ∙ mul_assoc 2 (2 ^ t) a

-- a factor of two that only one number has
half_out : (a b : ℕ) → a % 2 ≡ 1 → divisor a (2 * b) ≡ divisor a b
half_out a b odd =
    let is = divisor_is a b in
    divisor_once (divisor_is a (2 * b)) (record {
      left = is.left;
      right = dvd-mul_left_of_dvd (divisor a b) is.right 2;
      greatest = λ k p q. is.greatest k p (odd_halves k b (divides_odd k a odd p) q);
    })

twos_out : (t a b : ℕ) → a % 2 ≡ 1 → divisor a (2 ^ t * b) ≡ divisor a b
twos_out zero a b odd = ap (divisor a) (one-mul b)
twos_out (suc t) a b odd = ap (divisor a) (doubled t b) ∙ half_out a (2 ^ t * b) odd ∙ twos_out t a b odd

-- factors of two that both numbers have
twos_shared : (t a b : ℕ) → divisor (2 ^ t * a) (2 ^ t * b) ≡ 2 ^ t * divisor a b
twos_shared t a b =
    let is = divisor_is a b in
    divisor_once (divisor_is (2 ^ t * a) (2 ^ t * b)) (record {
      left = mul-dvd-mul_left (divisor a b) (2 ^ t) is.left;
      right = mul-dvd-mul_left (divisor a b) (2 ^ t) is.right;
      greatest = λ k. divisor_scales (2 ^ t) a b k (pow_pos t);
    })

-- the smaller number and the gap have the divisors that the two numbers have
gap_shares : (a b : ℕ) → a ≤ b → divisor a (b - a) ≡ divisor a b
gap_shares a b l =
    let is = divisor_is a b in
    divisor_once (divisor_is a (b - a)) (record {
      left = is.left;
      right = (dvd-sub_iff_left (divisor a b) l is.left).1 is.right;
      greatest = λ k p q. is.greatest k p ((dvd-sub_iff_left k l p).0 q);
    })

by_gap : (a b : ℕ) → divisor (min a b) (max a b - min a b) ≡ divisor a b
by_gap a b =
    elim (decided (leb a b)) [
      | inl e ↦
          let order : a ≤ b = leb-true a b e in ap₂ divisor (omega arith) (omega arith) ∙ gap_shares a b order
      | inr e ↦
          let order : b ≤ a = omega (arith, leb-false a b e) in
          ap₂ divisor (omega arith) (omega arith) ∙ gap_shares b a order ∙ divisor_swapped b a
    ]

-- n has t factors of two, and r is what is left of it
pub record Halved (n t r : ℕ) : Type 0 where
  pub whole : 2 ^ t * r ≡ n
  pub odd : r % 2 ≡ 1

pub halved : (k n : ℕ) → 0 < n → n < 2 ^ k → Halved n (count_trailing_zeros k n) (n / 2 ^ count_trailing_zeros k n)
unfolding count_trailing_zeros
halved zero n some l = absurd (omega arith)
halved (suc k) n some l = go (n % 2) refl (λ s f. halved k (n / 2) s f)
  where
    t : ℕ
    t = count_trailing_zeros k (n / 2)

    go :
        (d : ℕ) → n % 2 ≡ d → (0 < n / 2 → n / 2 < 2 ^ k → Halved (n / 2) t (n / 2 / 2 ^ t))
        → Halved n (under d t) (n / 2 ^ under d t)
    go zero even f =
        let half = f (omega arith) (omega arith) in
        let same : n / 2 ^ suc t ≡ n / 2 / 2 ^ t = ap (λ x. n / x) (pow-succ' 2 t) ∙ sym (div-div-eq-div-mul n 2 (2 ^ t)) in
        rw same (record { whole = doubled t (n / 2 / 2 ^ t) ∙ omega (arith, half.whole); odd = half.odd })
    go (suc d) e f = rw (div-one n) (record { whole = one-mul n; odd = omega arith })

-- what is left of an even number is at most its half
halved_within : (t : ℕ) {n r : ℕ} → Halved n t r → n % 2 ≡ 0 → 2 * r ≤ n
halved_within zero {n} {r} h even = absurd (omega (arith, h.odd, h.whole, one-mul r))
halved_within (suc t) {n} {r} h even = omega (arith, h.whole, doubled t r, mul-le-mul_right r (pow_pos t), one-mul r)

-- the divisor of two numbers is that of what is left of them, with the factors of two that both have
shared_first : {a b i j r s : ℕ} → Halved a i r → Halved b j s → i ≤ j → divisor r s * 2 ^ i ≡ divisor a b
shared_first {a} {b} {i} {j} {r} {s} h g l =
    mul_comm (divisor r s) (2 ^ i)
    ∙ ap (λ x. 2 ^ i * x) (sym (twos_out (j - i) r s h.odd))
    ∙ sym (twos_shared i r (2 ^ (j - i) * s))
    ∙ ap₂ divisor h.whole (sym (mul_assoc (2 ^ i) (2 ^ (j - i)) s) ∙ ap (λ x. x * s) (sym power) ∙ g.whole)
  where
    power : 2 ^ j ≡ 2 ^ i * 2 ^ (j - i)
    power = let e : j ≡ i + (j - i) = omega arith in ap (λ x. 2 ^ x) e ∙ pow-add 2 i (j - i)

pub halved_divisor : {a b i j r s : ℕ} → Halved a i r → Halved b j s → divisor r s * 2 ^ min i j ≡ divisor a b
halved_divisor {a} {b} {i} {j} {r} {s} h g =
    elim (decided (leb i j)) [
      | inl e ↦
          let order : i ≤ j = leb-true i j e in
          ap (λ t. divisor r s * 2 ^ t) (min-eq_left order) ∙ shared_first h g order
      | inr e ↦
          let order : j ≤ i = omega (arith, leb-false i j e) in
          ap₂ (λ d t. d * 2 ^ t) (divisor_swapped r s) (min-eq_right order) ∙ shared_first g h order ∙ divisor_swapped b a
    ]

-- how many binary digits a word has
abbrev pub digits : ℕ → ℕ
digits n = 64 - count_leading_zeros 64 n

-- half of a number has a digit less
digits_fewer : {n w : ℕ} → 0 < n → 2 * n ≤ w → w < 2 ^ 64 → digits n < digits w
digits_fewer {n} {w} some l fits =
    let top = leading_top 64 n some (omega arith) in
    let long = leading_length 64 w fits in
    let fewer : suc top.0 < long.0 =
    lt_of_not-le (λ (m : long.0 ≤ suc top.0). let p = pow_mono m in omega (arith, pow-succ' 2 top.0, top.2, long.2)) in
    omega (arith, top.1, long.1)

-- A round: in place of two odd numbers come the smaller and what is left of the gap.
module _ (a b : ℕ) {g t r : ℕ} (odd : (a % 2 ≡ 1) × (b % 2 ≡ 1)) (apart : g ≡ max a b - min a b) (h : Halved g t r) where
  pub round_divisor : divisor (min a b) r ≡ divisor a b
  round_divisor =
      sym (twos_out t (min a b) r (omega arith)) ∙ ap (divisor (min a b)) (h.whole ∙ apart) ∙ by_gap a b

  pub round_shorter : a < 2 ^ 64 → b < 2 ^ 64 → digits (min a b) + digits r < digits a + digits b
  round_shorter l m =
      let half : 2 * r ≤ g = halved_within t h (omega arith) in
      let some : 0 < r = omega (arith, h.odd) in
      elim (decided (leb a b)) [
        | inl e ↦
            let order : a ≤ b = leb-true a b e in
            let less : min a b ≡ a = omega arith in
            omega (arith, ap digits less, digits_fewer some (omega arith) m)
        | inr e ↦
            let order : b < a = leb-false a b e in
            let less : min a b ≡ b = omega arith in
            omega (arith, ap digits less, digits_fewer some (omega arith) l)
      ]
