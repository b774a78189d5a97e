-- `slopes::steps::step_at` meets its contract: the line around the next tick goes on to its end.
use Rattle.slopes.proofs.Lining.{grows_from}
use Rattle.slopes.proofs.steps.step_at.Goals as goal

pub returns-clause-step : goal.returns-clause-step
returns-clause-step c =
    let found = c.line_around-s.ensures in
    grows_from c.args.speed c.line_around-s.result found.line found.around.0 found.around.1
