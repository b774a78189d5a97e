-- The greatest common divisor and the least common multiple of two numbers, and that the recursion by the remainder finds them.
use Prim.Native.Nat.{ℕ, zero, suc, ◌*◌, ◌/◌, ◌%◌, ◌≤◌, ◌<◌, ◌∣◌}
use mathlib.Core.Path.{◌≡◌, refl, sym, ◌∙◌, ap}
use mathlib.Core.Bool.{Bool, true, false, cond}
use native.Mathlib.Nat.{not-suc-le-zero, mod-lt, mul_comm, mul_assoc, mul_right_comm, mul-pos, le_of_dvd, pos_of_dvd_of_pos}
use native.Mathlib.Nat.{dvd_refl, dvd-zero, dvd_trans, dvd_antisymm, dvd-mod_iff, dvd-mul_left, dvd-mul_right, mul-dvd-mul_left, mul-dvd-mul_right, dvd_of_mul-dvd-mul_left, dvd_of_mul-dvd-mul_right, mul-div_cancel', div-mul_cancel}
use native.Mathlib.Omega.{arith}
use lib.Dec.{eqb}
use borrow.Author.Tests.{eqb-true, eqb-false}
use Rattle.model.specs.Curve.{divisor_within, divisor, multiple}

-- the greatest common divisor

pub record IsDivisor (a b d : ℕ) : Type 0 where
  pub left : d ∣ a
  pub right : d ∣ b
  pub greatest : (k : ℕ) → k ∣ a → k ∣ b → k ∣ d

pub divisor_once : {a b d e : ℕ} → IsDivisor a b d → IsDivisor a b e → d ≡ e
divisor_once {a} {b} {d} {e} p q =
    dvd_antisymm (q.greatest d p.left p.right) (p.greatest e q.left q.right)

-- every number divides 0
with_zero : (a : ℕ) → IsDivisor a 0 a
with_zero a = record { left = dvd_refl a; right = dvd-zero a; greatest = λ k p q. p }

-- a and b have the common divisors of b and the remainder
by_remainder : (a b d : ℕ) → IsDivisor b (a % b) d → IsDivisor a b d
by_remainder a b d r =
    record {
      left = (dvd-mod_iff d r.left).0 r.right;
      right = r.left;
      greatest = λ k p q. r.greatest k q ((dvd-mod_iff k q).1 p);
    }

-- the remainder falls below b, so that more rounds than b are enough
within_is : (rounds a b : ℕ) → b < rounds → IsDivisor a b (divisor_within rounds a b)
within_is zero a b l = absurd (not-suc-le-zero l)
within_is (suc rounds) a b l = go (eqb b 0) refl (λ s. within_is rounds b (a % b) s)
  where
    deeper : ℕ
    deeper = divisor_within rounds b (a % b)

    go : (t : Bool) → eqb b 0 ≡ t → (a % b < rounds → IsDivisor b (a % b) deeper) → IsDivisor a b (cond t a deeper)
    go true e f = rw (eqb-true b 0 e) (with_zero a)
    go false e f = by_remainder a b deeper (f (let falls : a % b < b = mod-lt a (omega (arith, eqb-false b 0 e)) in omega arith))

pub divisor_is : (a b : ℕ) → IsDivisor a b (divisor a b)
unfolding divisor
divisor_is a b = within_is (suc b) a b (omega arith)

pub divisor_ends : (a : ℕ) → divisor a 0 ≡ a
divisor_ends a = divisor_once (divisor_is a 0) (with_zero a)

pub divisor_positive : (a b : ℕ) → 0 < a → 0 < divisor a b
divisor_positive a b h = pos_of_dvd_of_pos (divisor_is a b).left h

-- a common divisor of m·a and m·b divides m times the greatest of a and b
pub divisor_scales : (m a b c : ℕ) → 0 < m → c ∣ m * a → c ∣ m * b → c ∣ m * divisor a b
divisor_scales m a b c h p q =
    dvd_trans c (scaled.greatest c p q) (rw whole at (mul-dvd-mul_left part m divides))
  where
    scaled : IsDivisor (m * a) (m * b) (divisor (m * a) (m * b))
    scaled = divisor_is (m * a) (m * b)

    part : ℕ
    part = divisor (m * a) (m * b) / m

    whole : m * part ≡ divisor (m * a) (m * b)
    whole = mul-div_cancel' m (scaled.greatest m (dvd-mul_right m a) (dvd-mul_right m b))

    below : (x : ℕ) → divisor (m * a) (m * b) ∣ m * x → part ∣ x
    below x d = dvd_of_mul-dvd-mul_left part h (rw whole d)

    divides : part ∣ divisor a b
    divides = (divisor_is a b).greatest part (below a scaled.left) (below b scaled.right)

-- the least common multiple

pub record IsMultiple (a b h : ℕ) : Type 0 where
  pub left : a ∣ h
  pub right : b ∣ h
  pub least : (m : ℕ) → a ∣ m → b ∣ m → h ∣ m

pub multiple_once : {a b h k : ℕ} → IsMultiple a b h → IsMultiple a b k → h ≡ k
multiple_once {a} {b} {h} {k} p q =
    dvd_antisymm (p.least k q.left q.right) (q.least h p.left p.right)

-- multiple and divisor together make the product
product : (a b : ℕ) → multiple a b * divisor a b ≡ a * b
unfolding multiple
product a b =
    mul_right_comm (a / divisor a b) b (divisor a b)
    ∙ ap (λ k. k * b) (div-mul_cancel (divisor a b) (divisor_is a b).left)

-- the multiple is a, as often as b holds the divisor
by_left : (a b : ℕ) → a * (b / divisor a b) ≡ multiple a b
unfolding multiple
by_left a b =
    ap (λ k. k * (b / divisor a b)) (sym (div-mul_cancel (divisor a b) (divisor_is a b).left))
    ∙ mul_assoc (a / divisor a b) (divisor a b) (b / divisor a b)
    ∙ ap (λ k. a / divisor a b * k) (mul-div_cancel' (divisor a b) (divisor_is a b).right)

-- the product divides m times the divisor, so the multiple divides m; 0 is a multiple of everything
multiple_least : (a b m : ℕ) → a ∣ m → b ∣ m → multiple a b ∣ m
multiple_least a b zero p q = dvd-zero (multiple a b)
multiple_least a b (suc m) p q =
    dvd_of_mul-dvd-mul_right (multiple a b) (divisor_positive a b (pos_of_dvd_of_pos p (omega arith)))
    (rw (product a b) (divisor_scales (suc m) a b (a * b) (omega arith)
    (rw (mul_comm (suc m) a) (mul-dvd-mul_left b a q)) (mul-dvd-mul_right a p b)))

pub multiple_is : (a b : ℕ) → IsMultiple a b (multiple a b)
unfolding multiple
multiple_is a b =
    record {
      left = rw (by_left a b) at (dvd-mul_right a (b / divisor a b));
      right = dvd-mul_left b (a / divisor a b);
      least = multiple_least a b;
    }

pub multiple_positive : (a b : ℕ) → 0 < a → 0 < b → 0 < multiple a b
multiple_positive a b p q =
    pos_of_dvd_of_pos ((multiple_is a b).least (a * b) (dvd-mul_right a b) (dvd-mul_left b a)) (mul-pos p q)

pub multiple_grows : (a b : ℕ) → 0 < a → 0 < b → a ≤ multiple a b
multiple_grows a b p q = le_of_dvd (multiple_positive a b p q) (multiple_is a b).left
