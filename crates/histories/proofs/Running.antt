-- What a release runs inside an interval that its deadline does not pass: what is left of it when the interval begins.
use Prim.Native.Nat.{ℕ, zero, suc, ◌+◌, ◌-◌, ◌*◌, ◌/◌, ◌%◌, ◌≤◌, ◌<◌, min}
use mathlib.Core.Path.{◌≡◌, refl, sym, ◌∙◌, ap, subst}
use mathlib.Core.Bool.{Bool, true, false}
use mathlib.Core.List.{Memᴰ}
use mathlib.Core.Logic.{◌⊎◌, inl, inr}
use native.Mathlib.Nat.{not-suc-le-zero, zero-min}
use native.Mathlib.Omega.{arith}
use lib.Dec.{leb}
use borrow.Author.Tests.{leb-true, leb-false}
use Rattle.model.specs.Range.{sum, only}
use Rattle.model.specs.Graph.{size}
use Rattle.model.specs.Realization.{Task, time, Way, ways, present, waits_for, endings, remaining, rdem, len}
use Rattle.model.specs.Curve.{curve_of, demand}
use Rattle.model.specs.Lawful.{Lawful}
use Rattle.model.proofs.Ranges.{decided, below_suc, sum_ext}
use Rattle.model.proofs.Ways.{largest_at}
use Rattle.model.proofs.Finish.{finish_at}
use Rattle.model.proofs.TaskCurve.{curve_lawful}
use Rattle.model.proofs.Demand.{demand_is}
use Rattle.histories.specs.History.{Release, begun, overlap, runs}
use Rattle.histories.specs.Worst.{Constrained, Spared}

-- one of a sum is at most the sum
sum_at : (n : ℕ) (f : ℕ → ℕ) (i : ℕ) → i < n → f i ≤ sum n f
sum_at zero f i lt = absurd (not-suc-le-zero lt)
sum_at (suc n) f i lt =
    elim (below_suc lt) [
      | inl e ↦ subst (λ k. f k ≤ sum n f + f n) (sym e) (omega arith)
      | inr l ↦ let r = sum_at n f i l in omega arith
    ]

pub constrained_lawful : (t : Task) → Constrained t → Lawful (curve_of t)
constrained_lawful t d = curve_lawful t d.some d.within

-- the demand, by what is left at two ages: of whole periods everything, of the broken one a part
pub demand_left :
    (p q : ℕ) (t : Task) → Constrained t → (x : ℕ)
    → demand p q (curve_of t) x
    ≡ rdem t q (p * t.deadline - x % (p * t.period)) + rdem t q 0 * (x / (p * t.period))
unfolding curve_of
demand_left p q t d x =
    let law = constrained_lawful t d in
    demand_is p q law x ∙ rw (law.whole q) (omega arith)

-- nothing of a way is left at the deadline, nor later
left_by_deadline :
    (p q : ℕ) (t : Task) → Spared p q t → (w : Way) → Memᴰ w (ways t.shape) → (y : ℕ) → p * t.deadline ≤ y
    → remaining t q w y ≡ 0
unfolding rdem curve_of
left_by_deadline p q t s w m y after =
    let most = largest_at (ways t.shape) (λ w. remaining t q w y) w m in
    let over = (constrained_lawful t s.constrained).over q y (omega (arith, leb-true (q * len t) (p * t.deadline) s.fit)) in
    omega arith

-- what is left at z of a job of c that starts at s
abbrev pub rest : ℕ → ℕ → ℕ → ℕ
rest s c z = min c (s + c - z)

-- remaining work is that of all present vertices: each ends its job after its start
pub remaining_is :
    (t : Task) (q : ℕ) (w : Way) (z : ℕ)
    → remaining t q w z
    ≡ sum (size t.shape) (λ v. only (present t.shape w v) (rest (begun t q w v) (q * time t v) z))
unfolding remaining endings begun
remaining_is t q w z =
    sum_ext (size t.shape) _ _ (λ v lt.
    ap (λ e. only (present t.shape w v) (min (q * time t v) (e - z)))
    (finish_at (waits_for t.shape w) (λ u. q * time t u) (size t.shape) v lt))

-- a job that has nothing left at d takes no ticks, or it ends by d
rest_over : (s c d : ℕ) → rest s c d ≡ 0 → (c ≡ 0) ⊎ (s + c ≤ d)
rest_over s c d over =
    elim (decided (leb (s + c) d)) [
      | inl by ↦ inr (leb-true (s + c) d by)
      | inr after ↦ inl (omega (arith, leb-false (s + c) d after))
    ]

-- a job that ends by b runs from a on what is left of it at a
overlap_is : (s c a b : ℕ) → s + c ≤ b → overlap s (s + c) a b ≡ rest s c a
overlap_is s c a b by = omega arith

-- a job that takes no ticks runs in none
overlap_none : (s a b : ℕ) → overlap s (s + 0) a b ≡ 0
overlap_none s a b = omega arith

-- counted from the release on
rest_after : (tick s c a : ℕ) → rest (tick + s) c a ≡ rest s c (a - tick)
rest_after tick s c a = omega arith

-- one vertex, present or not, that starts s after its release, takes c, and has nothing left d after the release
runs_rest :
    (b : Bool) (tick s c d a x : ℕ) → only b (rest s c d) ≡ 0 → tick + d ≤ a + x
    → only b (overlap (tick + s) (tick + s + c) a (a + x)) ≡ only b (rest s c (a - tick))
runs_rest false tick s c d a x over within = refl
runs_rest true tick s c d a x over within =
    elim (rest_over s c d over) [
      | inl none ↦ rw none (overlap_none (tick + s) a (a + x) ∙ sym (zero-min (s + 0 - (a - tick))))
      | inr by ↦ overlap_is (tick + s) c a (a + x) (omega arith) ∙ rest_after tick s c a
    ]

-- A release whose deadline does not pass the interval runs inside it what is left of it when the interval begins: nothing is left at the
-- deadline.
pub runs_is :
    (p q : ℕ) (t : Task) → Spared p q t → (a x : ℕ) (r : Release) → Memᴰ r.way (ways t.shape)
    → r.tick + p * t.deadline ≤ a + x → runs t q a x r ≡ remaining t q r.way (a - r.tick)
unfolding runs
runs_is p q t s a x r m within =
    sum_ext (size t.shape) _ _ (λ v lt.
    runs_rest (present t.shape r.way v) r.tick (begun t q r.way v) (q * time t v) D a x
    (let one = sum_at (size t.shape) (left D) v lt in omega (arith, none)) within)
    ∙ sym (remaining_is t q r.way (a - r.tick))
  where
    D : ℕ
    D = p * t.deadline

    left : ℕ → ℕ → ℕ
    left z v = only (present t.shape r.way v) (rest (begun t q r.way v) (q * time t v) z)

    none : sum (size t.shape) (left D) ≡ 0
    none = sym (remaining_is t q r.way D) ∙ left_by_deadline p q t s r.way m D (omega arith)

-- The left end of the interval makes no difference: one whose deadline lies there, or before it, runs nothing inside.
pub left_end :
    (p q : ℕ) (t : Task) → Spared p q t → (a x : ℕ) (r : Release) → Memᴰ r.way (ways t.shape)
    → r.tick + p * t.deadline ≤ a → runs t q a x r ≡ 0
left_end p q t s a x r m before =
    runs_is p q t s a x r m (omega arith) ∙ left_by_deadline p q t s r.way m (a - r.tick) (omega arith)
