-- `stretch::kept::stretch_alone` meets its contract: the stretch begins a tick before, and the stretches and the line stay.
use Prim.Native.Nat.{◌<◌}
use native.Mathlib.Omega.{arith}
use Rattle.demand.proofs.TableDemand.{fitting, period_ticks}
use Rattle.stretch.proofs.kept.stretch_alone.Goals.{After-clock-period}
use Rattle.stretch.proofs.kept.stretch_alone.Goals as goal

pub clock-period-requires : goal.clock-period-requires
clock-period-requires c = (fitting c.args.chart.now c.args.speed c.requires.at_speed.0).period

-- a period has ticks
ticks : (c : After-clock-period) → 0 < c.clock-period.result.0
ticks c = period_ticks c.args.chart.now c.args.speed c.requires.at_speed.0 c.clock-period.ensures

pub nonzero_rem-last : goal.nonzero_rem-last
nonzero_rem-last c = ticks (goal.at.nonzero_rem-last c).After-clock-period

pub returns : goal.returns
returns c =
    let made = c.stretch_from-s.ensures in
    let tick = c.requires.tick in
    let at = made.at in
    record { around = (omega arith, omega arith); line = made.line; kept = record { each = c.requires.kept.each; line = c.requires.kept.line } }
