-- A ratio that is at most just those speeds that cover the rack and the tasks so far, task by task.
use Prim.Native.Nat.{ℕ, ◌+◌, ◌-◌, ◌*◌, ◌≤◌, ◌<◌}
use mathlib.Core.Path.{◌≡◌}
use mathlib.Core.Bool.{true}
use mathlib.Core.List.{List}
use mathlib.Core.Logic.{◌↔◌}
use native.Mathlib.Omega.{arith}
use lib.Dec.{lit<}
use lib.ListN.{length, get_or}
use borrow.Author.Count.{below_more}
use Rattle.model.specs.Limits.{most_processors, longest_period, largest_volume}
use Rattle.model.specs.Curve.{Curve, fits}
use Rattle.model.proofs.Speeds.{larger_covers, test_ratio}
use Rattle.model.proofs.Bounds.{word, product_fits}
use Rattle.curve.specs.declared.chart.Figures.{Figures}
use Rattle.curve.specs.Charts.{no_curve}
use Rattle.curve.specs.Figured.{Tells}
use Rattle.speeds.specs.Covering.{Dated}

module _ (m : ℕ) (cs : List Curve) where
  -- p/q covers the rack and the first i tasks
  abbrev CoversFirst : ℕ → ℕ → ℕ → Type 0
  CoversFirst i p q = (m * q ≤ p * (2 * m - 1)) × ((j : ℕ) → j < i → fits p q (get_or cs j no_curve) ≡ true)

  -- n/d is at most p/q exactly where it does
  abbrev Covered : ℕ → ℕ → ℕ → Type 0
  Covered i n d = (p q : ℕ) → (n * q ≤ p * d) ↔ CoversFirst i p q

  covered_none : Covered 0 m (2 * m - 1)
  covered_none p q = (λ low. (low, λ j l. absurd (omega arith)), λ covers. covers.0)

  -- one task more
  task_more :
      (i p q : ℕ) → let c = get_or cs i no_curve in (CoversFirst i p q × (c.length * q ≤ p * c.deadline)) ↔ CoversFirst (i + 1) p q
  task_more i p q =
      let test = let c = get_or cs i no_curve in test_ratio p q c.length c.deadline in (
        λ both. (both.0.0, below_more _ i both.0.1 (test.1 both.1)),
        λ covers. ((covers.0, λ j l. covers.1 j (omega arith)), test.0 (covers.1 i (omega arith))),
      )

  -- Such a ratio, whose parts keep their limits.
  pub record Largest (i n d : ℕ) : Type 0 where
    pub covers : Covered i n d
    pub some : 1 ≤ d
    pub limits : (d ≤ longest_period) × (n ≤ largest_volume)

  pub largest_none : (1 ≤ m) × (m ≤ most_processors) → Largest 0 m (2 * m - 1)
  largest_none sized = record { covers = covered_none; some = omega arith; limits = (omega arith, omega arith) }

  module _
      {i n d : ℕ} (old : Largest i n d) (dated : Dated cs) (low : i < length cs) {f : Figures} (tells : Tells f (get_or cs i no_curve)) where
    -- length and deadline of task i keep their limits too
    dates : (f.deadline.0 ≤ longest_period) × (f.length.0 ≤ largest_volume) × (1 ≤ f.deadline.0)
    dates = rw (tells.deadline, tells.length) (dated.1 i low)

    -- so there is room to compare its ratio
    pub crossed_room : (n * f.deadline.0 < word) × (f.length.0 * d < word)
    crossed_room = (product_fits old.limits.1 dates.0 (lit< tt), product_fits dates.1 old.limits.0 (lit< tt))

    -- one task more
    more :
        (p q : ℕ) → (CoversFirst i p q × (f.length.0 * q ≤ p * f.deadline.0)) ↔ CoversFirst (i + 1) p q
    more p q = rw (tells.deadline, tells.length) (task_more i p q)

    -- its ratio is the larger one
    pub largest_moves : n * f.deadline.0 < f.length.0 * d → Largest (i + 1) f.length.0 f.deadline.0
    largest_moves larger =
        record {
          covers = λ p q.
              let both = larger_covers n d f.length.0 f.deadline.0 dates.2 (omega arith) p q in (
                λ reached. (more p q).0 ((old.covers p q).0 (both.0 reached).0, reached),
                λ covers. ((more p q).1 covers).1,
              );
          some = dates.2;
          limits = (dates.0, dates.1);
        }

    -- or it is not
    pub largest_stays : f.length.0 * d ≤ n * f.deadline.0 → Largest (i + 1) n d
    largest_stays smaller =
        record {
          covers = λ p q.
              let both = larger_covers f.length.0 f.deadline.0 n d old.some smaller p q in (
                λ reached. (more p q).0 ((old.covers p q).0 reached, (both.0 reached).0),
                λ covers. (old.covers p q).1 ((more p q).1 covers).0,
              );
          some = old.some;
          limits = old.limits;
        }
