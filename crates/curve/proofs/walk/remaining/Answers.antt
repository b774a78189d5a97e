-- `curve::walk::remaining` meets its contract: a chart may be walked at every speed.
use Rattle.model.proofs.Speeds.{speed_kept}
use Rattle.curve.specs.Tables.{table_curve}
use Rattle.curve.proofs.Room.{walks}
use Rattle.curve.proofs.walk.remaining.Goals as goal

pub arm_piece-requires-clause-walks : goal.arm_piece-requires-clause-walks
arm_piece-requires-clause-walks c =
    let speed = c.args.speed in
    walks c.args.chart.now.sheet (speed_kept speed.p speed.q c.requires.0).2

pub returns : goal.returns
unfolding table_curve
returns c = c.arm_piece.ensures
