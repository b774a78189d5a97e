-- `cycle::common_cycle` meets its contract. The loop's invariant: h is within the limit, and with the periods still to come it makes
-- the common cycle of all.
use Prim.Native.Nat.{◌≤◌, ◌<◌}
use mathlib.Core.Path.{◌≡◌}
use lib.ListN.{drop}
use Rattle.model.specs.Limits.{most_cycle}
use Rattle.model.specs.Curve.{cycle_from}
use Rattle.cycle.proofs.common_cycle.Given as goal

abbrev pub invariant-loop-period : goal.invariant-loop-period
invariant-loop-period l =
    (0 < l.h) × (l.h ≤ most_cycle) × (cycle_from l.h (drop l.period-index l.periods) ≡ cycle_from 1 l.periods)
