-- `search::near::periods_within` meets its contract. The loop's invariant: the sum is that over the tasks passed.
use mathlib.Core.Path.{◌≡◌}
use Rattle.curve.specs.Charts.{curves}
use Rattle.search.proofs.Periods.{periods}
use Rattle.search.proofs.near.periods_within.Given as goal

abbrev pub invariant-loop-chart : goal.invariant-loop-chart
invariant-loop-chart l = l.periods ≡ periods (curves l.load.tasks.now) l.load.rack.speed l.ticks.0 l.chart-index
