-- `search::walks::walks_of` meets its contract: every number on its way fits its word.
use Prim.Native.Nat.{◌≤◌}
use native.Mathlib.Nat.{mul-le-mul, div-le_self}
use native.Mathlib.Omega.{arith}
use Rattle.vertices.specs.Members.{has}
use Rattle.demand.proofs.TableDemand.{fitting, period_ticks}
use Rattle.search.proofs.Periods.{count_within}
use Rattle.search.proofs.walks.walks_of.Goals as goal

pub clock-period-requires : goal.clock-period-requires
clock-period-requires c = (fitting c.args.chart.now c.args.speed c.requires.0).period

pub overflow_mul-result : goal.overflow_mul-result
overflow_mul-result c =
    let size = c.size-vertices in
    let few : size.result ≤ 64 = rw size.ensures (count_within 64 (has c.args.chart.now.figures.vertices)) in
    omega (arith, mul-le-mul few few)

pub nonzero_div-result-2 : goal.nonzero_div-result-2
nonzero_div-result-2 c = period_ticks c.args.chart.now c.args.speed c.requires.0 c.clock-period.ensures

pub overflow_add-result : goal.overflow_add-result
overflow_add-result c =
    omega (arith, div-le_self c.args.end.0 c.clock-period.result.0, c.requires.1)
