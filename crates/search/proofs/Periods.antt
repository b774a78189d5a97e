-- How many periods of all tasks end in so many ticks, and that a task makes a number of walks that fits its word.
use Prim.Native.Nat.{ℕ, zero, suc, ◌*◌, ◌/◌, ◌≤◌, ◌<◌}
use mathlib.Core.Bool.{Bool}
use mathlib.Core.List.{List}
use native.Mathlib.Nat.{le_trans, mul-le-mul_right, div-le_self}
use native.Mathlib.Omega.{arith}
use lib.ListN.{get_or}
use Rattle.model.specs.Limits.{most_tasks, most_tick}
use Rattle.model.specs.Range.{sum, count}
use Rattle.model.specs.Curve.{Curve}
use Rattle.model.proofs.Ranges.{sum_le, only_le}
use Rattle.model.proofs.Bounds.{word}
use Rattle.units.specs.declared.Speed.{Speed}
use Rattle.curve.specs.Charts.{no_curve}

module _ (cs : List Curve) (speed : Speed) (ticks : ℕ) where
  -- those of the first n tasks
  abbrev pub periods : ℕ → ℕ
  periods n = sum n (λ i. ticks / (speed.p * (get_or cs i no_curve).period))

  -- each task has no more than ticks
  pub periods_within_lem : (n : ℕ) → n ≤ most_tasks → periods n ≤ most_tasks * ticks
  periods_within_lem n few = le_trans (sum_le n ticks _ (λ i l. div-le_self ticks _)) (mul-le-mul_right ticks few)

  pub periods_fits : (n : ℕ) → n ≤ most_tasks → ticks ≤ most_tick → periods n < word
  periods_fits n few low = omega (arith, periods_within_lem n few)

-- no more members than numbers
pub count_within : (n : ℕ) (p : ℕ → Bool) → count n p ≤ n
count_within zero p = omega arith
count_within (suc n) p = omega (arith, count_within n p, only_le (p n) 1)
