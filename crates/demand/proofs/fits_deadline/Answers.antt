-- `demand::fits_deadline` meets its contract.
use Rattle.curve.specs.Tables.{table_curve}
use Rattle.demand.proofs.TableDemand.{fitting}
use Rattle.demand.proofs.fits_deadline.Goals as goal

pub runs-runs-requires : goal.runs-runs-requires
runs-runs-requires c = (fitting c.args.chart.now c.args.speed c.requires).length

pub clock-due-requires : goal.clock-due-requires
clock-due-requires c = (fitting c.args.chart.now c.args.speed c.requires).deadline

pub returns : goal.returns
unfolding table_curve
returns c = rw (c.runs-runs.ensures, c.clock-due.ensures)
