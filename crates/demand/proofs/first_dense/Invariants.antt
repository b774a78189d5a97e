-- `demand::first_dense` meets its contract. The loop's invariant: the tasks passed fit their deadlines.
use Prim.Native.Nat.{ℕ, ◌<◌}
use mathlib.Core.Path.{◌≡◌}
use mathlib.Core.Bool.{Bool, false, not}
use mathlib.Core.List.{List}
use lib.ListN.{get_or}
use Rattle.units.specs.declared.Speed.{Speed}
use Rattle.units.specs.Rack.{fits_at}
use Rattle.curve.specs.declared.chart.Chart.{Chart}
use Rattle.curve.specs.Charts.{curves, no_curve}
use Rattle.demand.proofs.first_dense.Given as goal

-- task i does not fit its deadline
abbrev pub dense : List Chart → Speed → ℕ → Bool
dense charts speed i = not (fits_at speed (get_or (curves charts) i no_curve))

abbrev pub invariant-loop-i : goal.invariant-loop-i
invariant-loop-i l = (j : ℕ) → j < l.i → dense l.charts l.speed j ≡ false
