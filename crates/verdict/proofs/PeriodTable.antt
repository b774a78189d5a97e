-- The periods of the tasks at a list of places, read place by place.
use Prim.Native.Nat.{ℕ, ◌+◌, ◌<◌}
use mathlib.Core.Path.{◌≡◌, sym, ◌∙◌, ap}
use mathlib.Core.List.{List, map}
use native.Mathlib.Omega.{arith}
use lib.ListN.{length, get_or, take, set, length-map}
use Rattle.std.proofs.lemmas.List.{get_or-map}
use Rattle.model.specs.Curve.{Curve, curve_of}
use Rattle.model.specs.Records.{Fields, fields_at, task_at}
use Rattle.model.specs.Entries.{curves_at}
use Rattle.curve.specs.Charts.{no_curve}
use Rattle.verdict.proofs.Filled.{one_more, as_many, curve_there}

abbrev pub periods_of : List Curve → List ℕ
periods_of cs = map (λ c. c.period) cs

module _ (bytes places : List ℕ) where
  -- of the periods the first i are read
  abbrev pub Read : ℕ → List ℕ → Type 0
  Read i periods = take i periods ≡ take i (periods_of (curves_at bytes places))

  pub one_read :
      (i : ℕ) (periods : List ℕ) {task : Fields} → i < length periods → i < length places → task ≡ fields_at bytes (get_or places i 0)
      → Read i periods → Read (i + 1) (set periods i task.d)
  unfolding curve_of task_at
  one_read i periods {task} room low is read =
      one_more periods (periods_of (curves_at bytes places)) i task.d 0 room (omega (arith, length-map (curves_at bytes places) (λ c. c.period), as_many bytes places))
      (ap (λ f. f.d) is
      ∙ sym
      (get_or-map (λ c. c.period) (curves_at bytes places) i no_curve 0 (omega (arith, as_many bytes places))
      ∙ ap (λ c. c.period) (curve_there bytes places i low)))
      read
