-- A chart with no job keeps what charts keep: no vertex is in an arm, and nothing remains.
use Prim.Native.Nat.{ℕ, zero, suc, ◌≤◌}
use mathlib.Core.Path.{◌≡◌, refl, sym, ◌∙◌, ap}
use mathlib.Core.Bool.{true}
use mathlib.Core.List.{List}
use native.Mathlib.Omega.{arith}
use lib.ListN.{get_or, replicate}
use Rattle.model.proofs.Ranges.{not_both}
use Rattle.vertices.specs.Members.{has}
use Rattle.vertices.proofs.Members.{has_zero}
use Rattle.curve.specs.declared.chart.Figures.{Figures}
use Rattle.curve.specs.declared.chart.Jobs.{Jobs}
use Rattle.curve.specs.Sheets.{Sheet}
use Rattle.curve.specs.Tables.{arm_of, jobs_left, table_curve, work_left}
use Rattle.curve.proofs.WordWalk.{sum_empty}

abbrev zeros : ℕ → List ℕ
zeros n = replicate n 0

zeros_at : (n i : ℕ) → get_or (zeros n) i 0 ≡ 0
zeros_at zero i = refl
zeros_at (suc n) zero = refl
zeros_at (suc n) (suc i) = zeros_at n i

abbrev no_arms : ℕ → List (List ℕ)
no_arms n = replicate n (zeros 2)

no_arm : (n v i : ℕ) → arm_of (no_arms n) v i ≡ 0
no_arm zero v i = refl
no_arm (suc n) zero i = zeros_at 2 i
no_arm (suc n) (suc v) i = no_arm n v i

abbrev figures : Figures
figures = record { deadline = record { 0 = 1 }; period = record { 0 = 1 }; length = record { 0 = 0 }; volume = record { 0 = 0 }; vertices = 0 }

abbrev jobs : Jobs
jobs = record { times = zeros 64; ends = zeros 64; arms = no_arms 64 }

pub empty_sheet : Sheet figures jobs
unfolding table_curve
empty_sheet =
    let none : (q x : ℕ) → work_left jobs q 0 x ≡ 0 = λ q x. sum_empty jobs.arms (jobs_left jobs.times jobs.ends q x) in
    let out : (v i u : ℕ) → has (arm_of jobs.arms v i) u ≡ true → 1 ≤ 0 = λ v i u h.
    absurd (not_both (has 0 u) (sym (ap (λ w. has w u) (no_arm 64 v i)) ∙ h) (has_zero u)) in
    record {
      laid = record { above = λ v i u h. absurd (omega (arith, out v i u h)); nested = λ v i u j w h. absurd (omega (arith, out v i u h)) };
      closed = λ u j w h. absurd (not_both (has 0 u) h (has_zero u));
      jobs = λ v. omega (arith, zeros_at 64 v);
      dues = λ v. omega (arith, zeros_at 64 v);
      curve = record {
        lawful = record {
          some = omega arith;
          constrained = omega arith;
          falls = λ q x y l. omega (arith, none q x, none q y);
          whole = λ q. omega (arith, none q 0);
          over = λ q x l. none q x;
        };
        period = omega arith;
        length = omega arith;
        volume = omega arith;
      };
    }
