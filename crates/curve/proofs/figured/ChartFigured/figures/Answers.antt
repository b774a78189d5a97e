-- `figures` of a chart meets its contract: its curve has its figures.
use mathlib.Core.Path.{refl}
use Rattle.curve.specs.Tables.{table_curve}
use Rattle.curve.proofs.figured.ChartFigured.figures.Goals as goal

pub returns : goal.returns
unfolding table_curve
returns c = record { deadline = refl; period = refl; length = refl; volume = refl }
