-- The verdict is the same on every finer grid: at our ticks both sides of the test are n·n times ours, and between two of them the load
-- lies on or below its chord and the bound on its own, so an overrun there forces one at an end.
use Prim.Native.Nat.{ℕ, zero, suc, ◌+◌, ◌-◌, ◌*◌, ◌/◌, ◌%◌, ◌≤◌, ◌<◌}
use mathlib.Core.Path.{◌≡◌, refl, sym, ◌∙◌, ap, subst, subst₂}
use mathlib.Core.Bool.{true, false}
use mathlib.Core.List.{List, [], ◌∷◌, map}
use mathlib.Core.Logic.{◌↔◌}
use native.Mathlib.Nat.{one-mul, mul-add, add-mul, mul_comm, mul-suc, mul-sub, mul_left_comm, mul-mul-mul_comm, mul-le-mul_left, le_of_mul-le-mul_left, mul-lt-mul_of_pos_left, mul-pos, div-add-mod, mod-lt}
use native.Mathlib.Omega.{arith}
use borrow.Author.Tests.{ltb-true, lt-ltb, le-ltb}
use Rattle.model.specs.Range.{least}
use Rattle.model.specs.Realization.{Task}
use Rattle.model.specs.Curve.{Curve, curve_of, total, bound, overruns, AllFit, FirstDense, Outcome, accepted, dense, overrun, Verdict, accepts, refuses, names, common_cycle}
use Rattle.model.specs.Lawful.{Lawful}
use Rattle.model.proofs.Ranges.{least_before, least_has, least_at}
use Rattle.model.proofs.Lists.{Each, each_map}
use Rattle.model.proofs.Verdicts.{within, verdict_once, found, found_is}
use Rattle.model.proofs.Judge.{lawful_cycle}
use Rattle.histories.specs.History.{Release}
use Rattle.histories.specs.Worst.{Constrained, Histories, inside_all}
use Rattle.histories.specs.Grid.{finer_bound, finer_overruns, Ruling, is_accepted, ruling_of, FinerVerdict, accepts, refuses, exceeds}
use Rattle.histories.proofs.Running.{constrained_lawful}
use Rattle.histories.proofs.Verdicts.{accepted_runs}
use Rattle.histories.proofs.Chord.{Chord}
use Rattle.histories.proofs.Cut.{Cut, task_cut, fits_finer, total_multiple, total_chord}

-- the finer bound is n times ours
bound_finer : (n m p q : ℕ) → finer_bound n m p q ≡ n * bound m p q
bound_finer n m p q =
    omega (arith, mul_left_comm m n q, mul_left_comm (m - 1) n p, mul-sub n (m * q) ((m - 1) * p))

-- a line lies on its chord
line_chord : (n i j b z : ℕ) → i + j ≡ n → i * (b * z) + j * (b * (z + n)) ≡ n * (b * (z + j))
line_chord n i j b z whole =
    omega (
      arith,
      ap (λ k. k * (b * z)) whole,
      add-mul i j (b * z),
      mul-add b z n,
      mul-add b z j,
      mul-add j (b * z) (b * n),
      mul-add n (b * z) (b * j),
      mul_left_comm j b n,
      mul_left_comm n b j,
      ap (λ k. b * k) (mul_comm j n),
    )

module _ (n m p q : ℕ) (parts : 0 < n) (some : 0 < p) (cs : List Curve) (laws : Each Lawful cs) (fit : AllFit p q cs)
    (cut : Each (Cut n q) cs) where
  -- both sides of the test of a tick there
  abbrev promise : ℕ → ℕ
  promise y = finer_bound n m p q * y

  abbrev load : ℕ → ℕ
  load y = n * p * total (n * p) (n * q) cs y

  -- at a tick of ours they are n·n times ours
  sides_finer : (x : ℕ) → (promise (n * x) ≡ n * n * (bound m p q * x)) × (load (n * x) ≡ n * n * (p * total p q cs x))
  sides_finer x = (
    ap (λ b. b * (n * x)) (bound_finer n m p q) ∙ mul-mul-mul_comm n (bound m p q) n x,
    ap (λ w. n * p * w) (total_multiple n p q parts some cs laws fit cut x) ∙ mul-mul-mul_comm n p n (total p q cs x),
  )

  -- so an overrun of ours is one there
  overruns_finer : (x : ℕ) → overruns m p q cs x ≡ true → finer_overruns n m p q cs (n * x) ≡ true
  unfolding overruns finer_overruns
  overruns_finer x e =
      let s = sides_finer x in
      let more = mul-lt-mul_of_pos_left (ltb-true (bound m p q * x) (p * total p q cs x) e) (mul-pos parts parts) in
      lt-ltb _ _ (subst₂ ◌<◌ (sym s.0) (sym s.1) more)

  load_chord : Chord n load
  load_chord x i j whole =
      let W = total (n * p) (n * q) cs in
      let chord = mul-le-mul_left (n * p) (total_chord n p q parts some cs laws fit cut x i j whole) in
      let both = mul-add (n * p) (i * W (n * x)) (j * W (n * x + n)) in
      let at : (k z : ℕ) → k * load z ≡ n * p * (k * W z) = λ k z. mul_left_comm k (n * p) (W z) in
      omega (arith, chord, both, at n (n * x + j), at i (n * x), at j (n * x + n))

  -- and where none of ours does, the bound holds at our ticks, and so between them
  within_finer : ((x : ℕ) → overruns m p q cs x ≡ false) → (y : ℕ) → load y ≤ promise y
  within_finer none y =
      let x = y / n in
      let j = y % n in
      let i = n - j in
      let whole : i + j ≡ n = omega (arith, mod-lt y parts) in
      let low = mul-le-mul_left i (ours x) in
      let high = mul-le-mul_left j (subst (λ z. load z ≤ promise z) (mul-suc n x) (ours (suc x))) in
      subst (λ z. load z ≤ promise z) (div-add-mod y n)
      (le_of_mul-le-mul_left {m = load (n * x + j)} {n = promise (n * x + j)} {k = n}
      (omega (arith, load_chord x i j whole, low, high, line_chord n i j (finer_bound n m p q) (n * x) whole)) parts)
    where
      ours : (x : ℕ) → load (n * x) ≤ promise (n * x)
      ours x =
          let s = sides_finer x in
          omega (arith, s.0, s.1, mul-le-mul_left (n * n) (within m p q cs x (none x)))

-- number 8 names the same task, or none
all_fit_finer : (n p q : ℕ) → 0 < n → (cs : List Curve) → AllFit p q cs → AllFit (n * p) (n * q) cs
all_fit_finer n p q parts [] fit = tt
all_fit_finer n p q parts (c ∷ cs) fit = (fits_finer n p q c parts ∙ fit.0, all_fit_finer n p q parts cs fit.1)

first_dense_finer : (n p q : ℕ) → 0 < n → (cs : List Curve) (i : ℕ) → FirstDense p q cs i → FirstDense (n * p) (n * q) cs i
first_dense_finer n p q parts [] i first = first
first_dense_finer n p q parts (c ∷ cs) zero first = fits_finer n p q c parts ∙ first
first_dense_finer n p q parts (c ∷ cs) (suc i) first =
    (fits_finer n p q c parts ∙ first.0, first_dense_finer n p q parts cs i first.1)

lawful_all : (ts : List Task) → Each Constrained ts → Each Lawful (map curve_of ts)
lawful_all ts constrained = each_map Constrained Lawful curve_of ts constrained_lawful constrained

cut_all : (n q : ℕ) (ts : List Task) → Each Constrained ts → Each (Cut n q) (map curve_of ts)
cut_all n q ts constrained = each_map Constrained (Cut n q) curve_of ts (λ t d. task_cut n q t) constrained

-- One grid, one ruling: that of the verdict at n·p and n·q, which also names the first of its overrunning ticks

as_verdict :
    {n m p q : ℕ} {cs : List Curve} {f : Ruling} → FinerVerdict n m p q cs f
    → (o : Outcome) × Verdict m (n * p) (n * q) cs o × (ruling_of o ≡ f)
unfolding overruns finer_overruns
as_verdict (accepts fit none) = (accepted, accepts fit none, refl)
as_verdict (refuses i first) = (dense i, refuses i first, refl)
as_verdict {n} {m} {p} {q} {cs} (exceeds y fit over) =
    let test = overruns m (n * p) (n * q) cs in
    let x = least (suc y) test in
    let low = least_at (suc y) test y (omega arith) over in
    (overrun x (total (n * p) (n * q) cs x), names x _ fit (least_has (suc y) test (omega arith)) (least_before (suc y) test) refl, refl)

pub finer_once :
    {n m p q : ℕ} {cs : List Curve} {f g : Ruling} → FinerVerdict n m p q cs f → FinerVerdict n m p q cs g → f ≡ g
finer_once v w =
    let one = as_verdict v in
    let other = as_verdict w in
    sym one.2 ∙ ap ruling_of (verdict_once one.1 other.1) ∙ other.2

module _ (n m p q : ℕ) (parts : 0 < n) (some : 0 < p) (ts : List Task) (constrained : Each Constrained ts) where
  -- what we find is found on the finer grid
  finer_has : {o : Outcome} → Verdict m p q (map curve_of ts) o → FinerVerdict n m p q (map curve_of ts) (ruling_of o)
  unfolding finer_overruns
  finer_has (accepts fit none) =
      accepts (all_fit_finer n p q parts (map curve_of ts) fit) (λ y.
      le-ltb _ _
      (within_finer n m p q parts some (map curve_of ts) (lawful_all ts constrained) fit (cut_all n q ts constrained) none y))
  finer_has (refuses i first) = refuses i (first_dense_finer n p q parts (map curve_of ts) i first)
  finer_has (names x w fit over before is) =
      exceeds (n * x) (all_fit_finer n p q parts (map curve_of ts) fit)
      (overruns_finer n m p q parts some (map curve_of ts) (lawful_all ts constrained) fit (cut_all n q ts constrained) x over)

  -- Request 12, of finer grids: a set is accepted, dense in a task or overrun over all ticks of the finer grid exactly where it is over
  -- ours.
  pub finer_same :
      {f : Ruling}
      → FinerVerdict n m p q (map curve_of ts) f ↔ ((o : Outcome) × Verdict m p q (map curve_of ts) o × (ruling_of o ≡ f))
  finer_same {f} = (
    λ there. (ours.0, ours.1, finer_once (finer_has ours.1) there),
    λ here. subst (FinerVerdict n m p q (map curve_of ts)) here.2 (finer_has here.1),
  )
    where
      ours : (o : Outcome) × Verdict m p q (map curve_of ts) o
      ours =
          let cs = map curve_of ts in
          let curves = lawful_all ts constrained in
          let cycle = lawful_cycle cs curves in
          (found m p q cs (common_cycle cs), found_is m p q (common_cycle cs) cs some cycle.some curves cycle.cycles)

  -- So the tasks of an accepted set may be released at any part of a tick: what the releases that count run inside stays within the bound.
  pub accepted_runs_finer :
      Verdict m p q (map curve_of ts) accepted → (rss : List (List Release)) → Histories (n * p) ts rss → (a y : ℕ)
      → n * p * inside_all (n * p) (n * q) a y ts rss ≤ finer_bound n m p q * y
  unfolding overruns finer_overruns
  accepted_runs_finer v =
      accepted_runs m (n * p) (n * q) ts (mul-pos parts some) constrained (there (finer_has v))
    where
      there : FinerVerdict n m p q (map curve_of ts) is_accepted → Verdict m (n * p) (n * q) (map curve_of ts) accepted
      there (accepts fit none) = accepts fit none

-- The grid of one part is ours.
pub grid_of_one : (m p q : ℕ) (cs : List Curve) (y : ℕ) → finer_overruns 1 m p q cs y ≡ overruns m p q cs y
unfolding finer_overruns overruns
grid_of_one m p q cs y = rw (one-mul p, one-mul q) refl
