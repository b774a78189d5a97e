-- `answers::demand_of` meets its contract: refused where the task does not fit its deadline, else its demand.
use mathlib.Core.Path.{sym, ◌∙◌}
use Rattle.answers.specs.Given.{demand_gives}
use Rattle.answers.proofs.OneTask.{chart_dense, chart_demand}
use Rattle.answers.proofs.demand_of.Goals as goal

pub returns-then-not-fits_deadline : goal.returns-then-not-fits_deadline
returns-then-not-fits_deadline c =
    let dense = sym c.fits_deadline.ensures ∙ c.if-not-fits_deadline.true in
    c.no_demand.ensures ∙ chart_dense _ _ c.chart_at.new.chart c.chart_at.ensures _ _ _ dense

pub returns : goal.returns
unfolding demand_gives
returns c =
    let fit = sym c.fits_deadline.ensures ∙ c.if-not-fits_deadline.false in
    chart_demand _ _ c.chart_at.new.chart c.chart_at.ensures _ _ _ fit c.demand_at.ensures
