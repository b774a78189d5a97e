-- `answers::figures_at` meets its contract: length and volume stand in the chart.
use Rattle.answers.specs.Given.{figures_give}
use Rattle.answers.proofs.OneTask.{chart_figures}
use Rattle.answers.proofs.figures_at.Goals as goal

pub returns : goal.returns
unfolding figures_give
returns c = chart_figures _ _ c.chart_at.new.chart c.chart_at.ensures
