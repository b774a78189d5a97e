-- `stretch::kept::stretch_at` meets its contract: one way through it for a tick behind the deadline, one for a tick before the latest
-- start, and one for those in between.
use native.Mathlib.Omega.{arith}
use Rattle.demand.proofs.TableDemand.{fitting}
use Rattle.stretch.proofs.Period.{start_there, late, early}
use Rattle.stretch.proofs.kept.stretch_at.Goals as goal

pub clock-due-requires : goal.clock-due-requires
clock-due-requires c = (fitting c.args.chart.now c.args.speed c.requires.at_speed.0).deadline

pub clock-period-requires : goal.clock-period-requires
clock-period-requires c = (fitting c.args.chart.now c.args.speed c.requires.at_speed.0).period

pub holds-volume-requires : goal.holds-volume-requires
holds-volume-requires c = (fitting c.args.chart.now c.args.speed c.requires.at_speed.0).volume

pub returns-then-due-r : goal.returns-then-due-r
returns-then-due-r c =
    let due = c.clock-due.ensures in
    let turn = c.clock-period.ensures in
    let tick = c.requires.tick in
    record {
      around = (omega arith, omega arith);
      line = late c.args.chart.now c.args.speed c.requires.at_speed due turn c.holds-volume.ensures;
      kept = c.requires.kept;
    }

pub runs-requires : goal.runs-requires
runs-requires c = (fitting c.args.chart.now c.args.speed c.requires.at_speed.0).length

pub overflow_sub-start : goal.overflow_sub-start
overflow_sub-start c = start_there c.args.chart.now c.args.speed c.requires.at_speed c.clock-due.ensures c.runs.ensures

pub returns-then-r-start : goal.returns-then-r-start
returns-then-r-start c =
    let tick = c.requires.tick in
    record {
      around = (omega arith, omega arith);
      line = early c.args.chart.now c.args.speed c.requires.at_speed c.clock-due.ensures c.runs.ensures;
      kept = c.requires.kept;
    }
