-- `search::near::periods_within` meets its contract.
use Prim.Native.Nat.{◌+◌, ◌*◌, ◌/◌}
use mathlib.Core.Path.{◌≡◌, ap, ◌∙◌, sym}
use native.Mathlib.Omega.{arith}
use lib.ListN.{get_or}
use Rattle.curve.specs.Tables.{table_curve}
use Rattle.curve.specs.Charts.{curves, no_curve}
use Rattle.curve.proofs.Charts.{curve_at}
use Rattle.demand.proofs.TableDemand.{fitting, period_ticks}
use Rattle.bound.proofs.LastTick.{sum_more}
use Rattle.search.proofs.Periods.{periods, periods_fits}
use Rattle.search.proofs.near.periods_within.Goals.{After-chart-item, After-clock}
use Rattle.search.proofs.near.periods_within.Goals as goal

-- the period of the task at hand
here : (c : After-chart-item) → (get_or (curves c.args.load.now.tasks.now) c.loop-chart.chart-index no_curve).period ≡ c.chart-item.result.figures.period.0
unfolding table_curve
here c =
    ap (λ curve. curve.period) (curve_at c.args.load.now.tasks.now c.loop-chart.chart-index c.chart-item.result c.loop-chart-test.true c.chart-item.is)

pub clock-requires : goal.clock-requires
clock-requires c = (fitting c.chart-item.result c.args.load.now.rack.speed c.args.load.now.on_rack.speed).period

pub nonzero_div-periods : goal.nonzero_div-periods
nonzero_div-periods c = period_ticks c.chart-item.result c.args.load.now.rack.speed c.args.load.now.on_rack.speed c.clock.ensures

-- with this task the sum is that of one task more
more : (c : After-clock) → let loop = c.loop-chart in
    let a = c.args in
    loop.periods + a.ticks.0 / c.clock.result.0 ≡ periods (curves a.load.now.tasks.now) a.load.now.rack.speed a.ticks.0 (loop.chart-index + 1)
more c =
    let loop = c.loop-chart in
    let a = c.args in
    sum_more loop.chart-index _ loop.invariant
    (ap (λ turn. a.ticks.0 / turn) (c.clock.ensures ∙ ap (λ d. a.load.now.rack.speed.p * d) (sym (here (goal.at.After-clock c).After-chart-item))))

pub overflow_add-periods : goal.overflow_add-periods
overflow_add-periods c =
    let found = (goal.at.overflow_add-periods c).After-clock in
    let a = c.args in
    let next = found.loop-chart.chart-index + 1 in
    omega (arith, more found, periods_fits (curves a.load.now.tasks.now) a.load.now.rack.speed a.ticks.0 next (omega (arith, c.args.load.now.few)) c.requires)

pub loop-chart-preserved : goal.loop-chart-preserved
loop-chart-preserved c = more (goal.at.loop-chart-preserved c).After-clock
