-- The smallest speed that is enough: there is one at most, and for a bound n/d one look at each q finds it. So the default speed is one
-- and only one, wherever no length exceeds its deadline.
use Prim.Native.Nat.{ℕ, zero, suc, ◌+◌, ◌-◌, ◌*◌, ◌/◌, ◌≤◌, ◌<◌, ◌∣◌}
use mathlib.Core.Path.{◌≡◌, refl, sym, ◌∙◌, ap, subst}
use mathlib.Core.Bool.{Bool, true, false, cond, ◌&&◌}
use mathlib.Core.List.{List, [], ◌∷◌}
use mathlib.Core.Logic.{inl, inr, ◌↔◌}
use native.Mathlib.Nat.{mul_comm, mul_assoc, mul_left_comm, mul_right_comm, mul-one, mul-add, add-mul, mul-le-mul_left, mul-le-mul_right, le_of_mul-le-mul_left, le_of_mul-le-mul_right, lt_of_mul-lt-mul_right, eq_of_mul-eq-mul_right, dvd_antisymm, dvd-mul_left, mul-div_cancel'}
use native.Mathlib.Omega.{arith}
use lib.Dec.{leb, ltb}
use borrow.Author.Tests.{leb-true, leb-false, le-leb, ltb-true, ltb-false}
use Rattle.model.specs.Limits.{largest_part}
use Rattle.model.specs.Curve.{Curve, fits, AllFit, divisor}
use Rattle.model.specs.Speeds.{speed_fits, Smallest, DefaultSpeed}
use Rattle.model.proofs.Ranges.{and_left, and_right, and_both, decided}
use Rattle.model.proofs.Lists.{Each}
use Rattle.model.proofs.Divisor.{divisor_is, divisor_scales}

-- what a speed keeps
pub speed_kept : (p q : ℕ) → speed_fits p q ≡ true → (1 ≤ p) × (p ≤ q) × (q ≤ largest_part)
speed_kept p q e =
    let pq = and_left (leb 1 p && leb p q) (leb q largest_part) e in (
      leb-true 1 p (and_left (leb 1 p) (leb p q) pq),
      leb-true p q (and_right (leb 1 p) (leb p q) pq),
      leb-true q largest_part (and_right (leb 1 p && leb p q) (leb q largest_part) e),
    )

pub speed_fits_lem : (p q : ℕ) → (1 ≤ p) × (p ≤ q) × (q ≤ largest_part) → speed_fits p q ≡ true
speed_fits_lem p q kept =
    and_both (leb 1 p && leb p q) (leb q largest_part)
    (and_both (leb 1 p) (leb p q) (le-leb 1 p kept.0) (le-leb p q kept.1)) (le-leb q largest_part kept.2)

-- Ratios: n/d is at most p/q where n·q <= p·d.

-- n/d <= l/e <= p/q
pub ratio_trans : (n d l e p q : ℕ) → 0 < e → n * e ≤ l * d → l * q ≤ p * e → n * q ≤ p * d
ratio_trans n d l e p q some low high =
    le_of_mul-le-mul_right {m = n * q} {n = p * d} {k = e}
    (omega (
      arith,
      mul_right_comm n q e,
      mul-le-mul_right q low,
      mul_right_comm l d q,
      mul-le-mul_right d high,
      mul_right_comm p d e,
    ))
    some

-- One at most

-- p/q and a/b are equal, and p/q is in lowest terms: its q divides b
lowest_divides : (p q a b : ℕ) → 0 < b → divisor p q ≡ 1 → p * b ≡ a * q → q ∣ b
lowest_divides p q a b some lowest same =
    rw (lowest, mul-one b) at
    (divisor_scales b p q q some (rw (mul_comm b p, same) (dvd-mul_left q a)) (dvd-mul_left q b))

pub smallest_once :
    {Enough : ℕ → ℕ → Type 0} {p q a b : ℕ} → Smallest Enough p q → Smallest Enough a b → (p ≡ a) × (q ≡ b)
smallest_once {p = p} {q = q} {a = a} {b = b} s t =
    let one = speed_kept p q s.range in
    let other = speed_kept a b t.range in
    let same : p * b ≡ a * q = omega (arith, s.least a b t.range t.enough, t.least p q s.range s.enough) in
    let parts : q ≡ b =
    dvd_antisymm (lowest_divides p q a b (omega arith) s.lowest same)
    (lowest_divides a b p q (omega arith) t.lowest (sym same)) in
    (eq_of_mul-eq-mul_right b (omega arith) p a (same ∙ ap (λ k. a * k) parts), parts)

-- speeds that are enough for the one are enough for the other
pub smallest_same :
    {Enough Other : ℕ → ℕ → Type 0} {p q : ℕ} → ((a b : ℕ) → Enough a b ↔ Other a b) → Smallest Enough p q
    → Smallest Other p q
smallest_same {p = p} {q = q} same s =
    record {
      range = s.range;
      lowest = s.lowest;
      enough = (same p q).0 s.enough;
      least = λ a b fits other. s.least a b fits ((same a b).1 other);
    }

-- The smallest speed at or above a ratio

module _ (n d : ℕ) where
  -- A look at k + 1, from p, a and b: p is the part of k that reaches n/d, and a/b the smallest speed so far.
  unfoldable pub part_of : ℕ → ℕ → ℕ
  part_of k p = cond (ltb (p * d) (n * (k + 1))) (p + 1) p

  unfoldable pub look : ℕ → ℕ × ℕ × ℕ → ℕ × ℕ × ℕ
  unfolding part_of
  look k l = let r = part_of k l.0 in cond (ltb (r * l.2) (l.1 * (k + 1))) (r, r, k + 1) (r, l.1, l.2)

  -- from 1/1, so many looks
  unfoldable pub looks : ℕ → ℕ × ℕ × ℕ
  looks zero = (1, 1, 1)
  looks (suc k) = look (suc k) (looks k)

  -- What is known once each q up to k was looked at: p is the least part of k that reaches n/d, and a/b the smallest of all that do, in
  -- lowest terms.
  pub record Nearest (k p a b : ℕ) : Type 0 where
    pub reaches : n * k ≤ p * d
    pub just : p * d < n * k + d
    pub some : 1 ≤ a
    pub below : a ≤ b
    pub within : b ≤ k
    pub lowest : divisor a b ≡ 1
    pub enough : n * b ≤ a * d
    pub least : (u v : ℕ) → 1 ≤ v → v ≤ k → n * v ≤ u * d → a * v ≤ u * b

module _ (n d : ℕ) (range : (1 ≤ n) × (n ≤ d)) where
  -- with q = 1 there is 1/1 alone
  pub nearest_first : Nearest n d 1 1 1 1
  unfolding divisor
  nearest_first =
      record {
        reaches = omega (arith, range.1);
        just = omega (arith, range.0);
        some = omega arith;
        below = omega arith;
        within = omega arith;
        lowest = refl;
        enough = omega (arith, range.1);
        least = λ u v one within reached.
            let v1 : v ≡ 1 = omega arith in
            let u1 : 1 ≤ u = reach u (rw v1 at reached) in
            omega (arith, v1);
      }
    where
      reach : (u : ℕ) → n * 1 ≤ u * d → 1 ≤ u
      reach zero h = absurd (omega (arith, range.0))
      reach (suc u) h = omega arith

  -- from k to k + 1
  module _ {k p a b : ℕ} (near : Nearest n d k p a b) where
    -- the part that reaches n/d grows by one at most
    pub part_more : p * d < n * (k + 1) → (n * (k + 1) ≤ (p + 1) * d) × ((p + 1) * d < n * (k + 1) + d)
    part_more short =
        let more = add-mul p 1 d in
        let turn = mul-add n k 1 in
        let high = near.reaches in
        (omega (arith, range.1), omega arith)

    pub part_stays : n * (k + 1) ≤ p * d → (n * (k + 1) ≤ p * d) × (p * d < n * (k + 1) + d)
    part_stays enough = let turn = mul-add n k 1 in let low = near.just in (enough, omega arith)

    module _ (r : ℕ) (next : (n * (k + 1) ≤ r * d) × (r * d < n * (k + 1) + d)) where
      part_least : (u : ℕ) → n * (k + 1) ≤ u * d → r ≤ u
      part_least u reached =
          let more = add-mul u 1 d in
          let low : r < u + 1 = lt_of_mul-lt-mul_right d {m = r} {n = u + 1} (omega (arith, next.1)) in
          omega arith

      -- a speed that is no larger than r/(k + 1) stays
      pub nearest_stays : a * (k + 1) ≤ r * b → Nearest n d (k + 1) r a b
      nearest_stays smaller =
          record {
            reaches = next.0;
            just = next.1;
            some = near.some;
            below = near.below;
            within = let l = near.within in omega arith;
            lowest = near.lowest;
            enough = near.enough;
            least = λ u v one within reached.
                elim (decided (leb v k)) [
                  | inl low ↦ near.least u v one (leb-true v k low) reached
                  | inr high ↦
                      let last : v ≡ k + 1 = omega (arith, leb-false v k high) in
                      let part = mul-le-mul_right b (part_least u (rw last at reached)) in
                      rw last (omega arith)
                ];
          }

      -- a smaller one has no equal with a smaller q, which would have been found before: it is in lowest terms
      lowest_turn : r * b < a * (k + 1) → divisor r (k + 1) ≡ 1
      lowest_turn smaller = go g refl
        where
          g : ℕ
          g = divisor r (k + 1)

          s : ℕ
          s = r / g

          t : ℕ
          t = (k + 1) / g

          parts : g * s ≡ r
          parts = mul-div_cancel' g (divisor_is r (k + 1)).left

          whole : g * t ≡ k + 1
          whole = mul-div_cancel' g (divisor_is r (k + 1)).right

          some : (h : ℕ) → t ≡ h → 1 ≤ t
          some zero e = absurd (omega (arith, whole, ap (λ h. g * h) e))
          some (suc h) e = omega arith

          -- s/t is r/(k + 1), and t is smaller
          none : 2 ≤ g → ⊥
          none more =
              let low : t ≤ k = omega (arith, some t refl, whole, mul-le-mul_right t more) in
              let reached : n * t ≤ s * d =
              le_of_mul-le-mul_left {m = n * t} {n = s * d} {k = g}
              (omega (arith, mul_left_comm g n t, ap (λ h. n * h) whole, mul_assoc g s d, ap (λ h. h * d) parts, next.0)) (omega arith) in
              omega (
                arith,
                smaller,
                mul-le-mul_left g (near.least s t (some t refl) low reached),
                mul_left_comm g a t,
                ap (λ h. a * h) whole,
                mul_assoc g s b,
                ap (λ h. h * b) parts,
              )

          go : (h : ℕ) → g ≡ h → g ≡ 1
          go zero e = absurd (omega (arith, whole, ap (λ h. h * t) e))
          go (suc zero) e = e
          go (suc (suc h)) e = absurd (none (omega arith))

      pub nearest_moves : r * b < a * (k + 1) → Nearest n d (k + 1) r r (k + 1)
      nearest_moves smaller =
          record {
            reaches = next.0;
            just = next.1;
            some = positive r refl;
            below = part_least (k + 1) (omega (arith, mul_comm n (k + 1), mul-le-mul_left (k + 1) range.1));
            within = omega arith;
            lowest = lowest_turn smaller;
            enough = next.0;
            least = λ u v one within reached.
                elim (decided (leb v k)) [
                  | inl low ↦
                      ratio_trans r (k + 1) a b u v (omega (arith, near.some, near.below)) (omega arith)
                      (near.least u v one (leb-true v k low) reached)
                  | inr high ↦
                      let last : v ≡ k + 1 = omega (arith, leb-false v k high) in
                      rw last (mul-le-mul_right (k + 1) (part_least u (rw last at reached)))
                ];
          }
        where
          positive : (e : ℕ) → r ≡ e → 1 ≤ r
          positive zero e = absurd (let h = rw e at next.0 in omega (arith, mul-add n k 1, range.0))
          positive (suc e) is = omega arith

  -- once each q was looked at
  pub nearest_smallest : {p a b : ℕ} → Nearest n d largest_part p a b → Smallest (λ u v. n * v ≤ u * d) a b
  nearest_smallest {a = a} {b = b} near =
      record {
        range = speed_fits_lem a b (near.some, near.below, near.within);
        lowest = near.lowest;
        enough = near.enough;
        least = λ u v fits reached.
            let kept = speed_kept u v fits in near.least u v (omega arith) kept.2 reached;
      }

  abbrev NearAt : ℕ → ℕ × ℕ × ℕ → Type 0
  NearAt k l = Nearest n d k l.0 l.1 l.2

  look_near : (k : ℕ) (l : ℕ × ℕ × ℕ) → NearAt k l → NearAt (k + 1) (look n d k l)
  unfolding look part_of
  look_near k l near = speed (part_of n d k l.0) (part (ltb (l.0 * d) (n * (k + 1))) refl)
    where
      part :
          (t : Bool) → ltb (l.0 * d) (n * (k + 1)) ≡ t
          → let r = cond t (l.0 + 1) l.0 in (n * (k + 1) ≤ r * d) × (r * d < n * (k + 1) + d)
      part true e = part_more near (ltb-true _ _ e)
      part false e = part_stays near (ltb-false _ _ e)

      speed :
          (r : ℕ) → (n * (k + 1) ≤ r * d) × (r * d < n * (k + 1) + d)
          → NearAt (k + 1) (cond (ltb (r * l.2) (l.1 * (k + 1))) (r, r, k + 1) (r, l.1, l.2))
      speed r next = go (ltb (r * l.2) (l.1 * (k + 1))) refl
        where
          go : (t : Bool) → ltb (r * l.2) (l.1 * (k + 1)) ≡ t → NearAt (k + 1) (cond t (r, r, k + 1) (r, l.1, l.2))
          go true e = nearest_moves near r next (ltb-true _ _ e)
          go false e = nearest_stays near r next (ltb-false _ _ e)

  looks_near : (k : ℕ) → NearAt (suc k) (looks n d k)
  unfolding looks
  looks_near zero = nearest_first
  looks_near (suc k) =
      subst (λ h. NearAt h (look n d (suc k) (looks n d k))) (omega arith)
      (look_near (suc k) (looks n d k) (looks_near k))

-- The default speed

-- The larger of two ratios is at most p/q exactly where both are.
pub larger_covers :
    (n d l e : ℕ) → 0 < e → n * e ≤ l * d → (p q : ℕ) → (l * q ≤ p * e) ↔ ((n * q ≤ p * d) × (l * q ≤ p * e))
larger_covers n d l e some low p q = (λ high. (ratio_trans n d l e p q some low high, high), λ both. both.1)

-- the test of a length and its deadline, as a ratio
pub test_ratio : (p q l e : ℕ) → (leb (q * l) (p * e) ≡ true) ↔ (l * q ≤ p * e)
test_ratio p q l e = (
  λ test. omega (arith, mul_comm q l, leb-true (q * l) (p * e) test),
  λ low. le-leb (q * l) (p * e) (omega (arith, mul_comm q l)),
)

-- the largest of a ratio and those of the tasks
unfoldable pub largest : ℕ × ℕ → List Curve → ℕ × ℕ
largest r [] = r
largest r (c ∷ cs) = largest (cond (ltb (r.0 * c.deadline) (c.length * r.1)) (c.length, c.deadline) r) cs

abbrev AtMost : ℕ × ℕ → ℕ → ℕ → Type 0
AtMost r p q = r.0 * q ≤ p * r.1

largest_covers :
    (r : ℕ × ℕ) (cs : List Curve) → 0 < r.1 → Each (λ c. 0 < c.deadline) cs → (p q : ℕ)
    → AtMost (largest r cs) p q ↔ (AtMost r p q × AllFit p q cs)
unfolding largest
largest_covers r [] some due p q = (λ l. (l, tt), λ both. both.0)
largest_covers r (c ∷ cs) some due p q =
    go (ltb (r.0 * c.deadline) (c.length * r.1)) refl (λ s positive. largest_covers s cs positive due.1 p q)
  where
    go :
        (t : Bool) → ltb (r.0 * c.deadline) (c.length * r.1) ≡ t
        → ((s : ℕ × ℕ) → 0 < s.1 → AtMost (largest s cs) p q ↔ (AtMost s p q × AllFit p q cs))
        → AtMost (largest (cond t (c.length, c.deadline) r) cs) p q ↔ (AtMost r p q × ((fits p q c ≡ true) × AllFit p q cs))
    go true e ih =
        let more = larger_covers r.0 r.1 c.length c.deadline due.0
        (omega (arith, ltb-true (r.0 * c.deadline) (c.length * r.1) e)) p q in
        let rest = ih (c.length, c.deadline) due.0 in (
          λ l. ((more.0 (rest.0 l).0).0, ((test_ratio p q c.length c.deadline).1 (rest.0 l).0, (rest.0 l).1)),
          λ all. rest.1 ((test_ratio p q c.length c.deadline).0 all.1.0, all.1.1),
        )
    go false e ih =
        let more = larger_covers c.length c.deadline r.0 r.1 some (ltb-false _ _ e) p q in
        let rest = ih r some in (
          λ l. ((rest.0 l).0, ((test_ratio p q c.length c.deadline).1 (more.0 (rest.0 l).0).0, (rest.0 l).1)),
          λ all. rest.1 (all.0, all.1.1),
        )

-- A ratio that is at most just those speeds that cover a rack and its tasks lies between 0 and 1 where 1/1 covers them.
pub ratio_range :
    (n d m : ℕ) {Fit : ℕ → ℕ → Type 0} → 1 ≤ m
    → ((p q : ℕ) → (n * q ≤ p * d) ↔ ((m * q ≤ p * (2 * m - 1)) × Fit p q)) → Fit 1 1 → (1 ≤ n) × (n ≤ d)
ratio_range n d m some covers full = (positive n refl, omega (arith, (covers 1 1).1 (omega arith, full)))
  where
    positive : (k : ℕ) → n ≡ k → 1 ≤ n
    positive zero e = absurd (omega (arith, ((covers 0 1).0 (omega (arith, e))).0))
    positive (suc k) e = omega arith

unfoldable pub default_speed : ℕ → List Curve → ℕ × ℕ
unfolding largest looks
default_speed m cs =
    let r = largest (m, 2 * m - 1) cs in
    let l = looks r.0 r.1 30 in
    (l.1, l.2)

-- there is a default speed wherever no length exceeds its deadline
pub default_is :
    (m : ℕ) (cs : List Curve) → 1 ≤ m → Each (λ c. 0 < c.deadline) cs → AllFit 1 1 cs
    → DefaultSpeed m cs (default_speed m cs).0 (default_speed m cs).1
unfolding default_speed
default_is m cs some due fit =
    let r = largest (m, 2 * m - 1) cs in
    let covers = largest_covers (m, 2 * m - 1) cs (omega arith) due in
    let range = ratio_range r.0 r.1 m some covers fit in
    smallest_same covers (nearest_smallest r.0 r.1 range (looks_near r.0 r.1 range 30))

-- one whose length exceeds its deadline fits at no speed
pub fit_at_full : (p q : ℕ) (cs : List Curve) → speed_fits p q ≡ true → AllFit p q cs → AllFit 1 1 cs
fit_at_full p q [] fits fit = tt
fit_at_full p q (c ∷ cs) fits fit =
    let kept = speed_kept p q fits in
    let at : c.length * 1 ≤ 1 * c.deadline =
    ratio_trans c.length c.deadline p q 1 1 (omega arith) ((test_ratio p q c.length c.deadline).0 fit.0) (omega arith) in
    ((test_ratio 1 1 c.length c.deadline).1 at, fit_at_full p q cs fits fit.1)

-- There is exactly one default speed wherever no length exceeds its deadline.
pub one_default :
    (m : ℕ) (cs : List Curve) → 1 ≤ m → Each (λ c. 0 < c.deadline) cs → AllFit 1 1 cs
    → (p : ℕ) × (q : ℕ) × DefaultSpeed m cs p q × ((a b : ℕ) → DefaultSpeed m cs a b → (a ≡ p) × (b ≡ q))
one_default m cs some due fit =
    let is = default_is m cs some due fit in (_, _, is, λ a b other. smallest_once other is)
