-- `stretch::kept::stretch_from` meets its contract: a piece of the remaining work is a stretch of the demand.
use native.Mathlib.Omega.{arith}
use Rattle.demand.proofs.TableDemand.{fitting}
use Rattle.stretch.proofs.Period.{busy}
use Rattle.stretch.proofs.kept.stretch_from.Goals as goal

pub clock-due-requires : goal.clock-due-requires
clock-due-requires c = (fitting c.args.chart.now c.args.speed c.requires.at_speed.0).deadline

pub returns-clause-line : goal.returns-clause-line
returns-clause-line c =
    let due = c.clock-due.ensures in
    let found = c.remaining-piece in
    busy c.args.chart.now c.args.speed c.requires.at_speed c.args.from.0 found.result due (omega arith) found.ensures
