-- How layers leaves the lent table: unchanged with a refusal, or with all pairs at its front.
use Prim.Native.Nat.{ℕ, ◌*◌, ◌≤◌, ◌<◌}
use mathlib.Core.Path.{◌≡◌, ap}
use mathlib.Core.Bool.{true}
use mathlib.Core.List.{List, ◌++◌}
use native.Mathlib.Nat.{le_refl}
use native.Mathlib.Omega.{arith}
use lib.ListN.{length, drop}
use borrow.Author.Tests.{le-leb, lt-leb}
use Rattle.model.specs.Limits.{largest_volume}
use Rattle.model.specs.Curve.{Curve, curve_of}
use Rattle.model.specs.Lawful.{Limited}
use Rattle.model.specs.Layers.{layers, as_words}
use Rattle.model.specs.Records.{task_at}
use Rattle.model.specs.Speeds.{speed_fits}
use Rattle.model.specs.Entries.{task_is, no_layers, layered_for}
use Rattle.model.proofs.Speeds.{speed_kept}
use Rattle.model.proofs.Bounds.{word, volume_fits, pairs_within}
use Rattle.answers.specs.Given.{layers_give}
use Rattle.answers.specs.declared.TaskLayers.{TaskLayers}

-- a refusal, with the table as it was lent
pub refuses :
    {number place : ℕ} {r : TaskLayers} (lent : List ℕ) → r ≡ record { number = number; place = place; pairs = 0 }
    → layers_give r lent ≡ no_layers number place lent
unfolding layers_give
refuses lent e = ap (λ (r : TaskLayers). layers_give r lent) e

-- both words of every pair can be counted
pub words_counted :
    (c : Curve) (p q : ℕ) {pairs : ℕ} → Limited c → speed_fits p q ≡ true → pairs ≡ length (layers c q) → 2 * pairs < word
words_counted c p q limits fits count =
    omega (arith, pairs_within c q limits, volume_fits (speed_kept p q fits).2 (le_refl largest_volume))

-- the task at a place, whose curve has so many pairs
module _
    (bytes : List ℕ) (place q : ℕ) (lent : List ℕ) {c : Curve} {pairs : ℕ} (told : c ≡ curve_of (task_at bytes place))
    (count : pairs ≡ length (layers c q)) where
  pub too_short : length lent < 2 * pairs → no_layers 10 0 lent ≡ layered_for bytes (task_is place) q lent
  unfolding layered_for
  too_short low = rw (← told, lt-leb (2 * length (layers c q)) (length lent) (omega arith))

  pub all_fit :
      {table : List ℕ} → 2 * pairs ≤ length lent → table ≡ as_words (layers c q) ++ drop (2 * pairs) lent
      → layers_give (record { number = 0; place = 0; pairs = pairs }) table ≡ layered_for bytes (task_is place) q lent
  unfolding layered_for layers_give
  all_fit room words = rw (← told, le-leb (2 * length (layers c q)) (length lent) (omega arith), words, count)
