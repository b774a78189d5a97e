-- `entries::figures` meets its contract: those of the task asked for, or the refusal that comes before it.
use mathlib.Core.Path.{ap, ◌∙◌}
use Rattle.model.specs.Entries.{figures, figures_for}
use Rattle.answers.specs.Given.{figures_give}
use Rattle.entries.proofs.figures.Goals as goal

pub returns-in-Ok : goal.returns-in-Ok
unfolding figures
returns-in-Ok c = (rw c.in-Ok.ensures.same_set at c.figures_at.ensures) ∙ ap (figures_for _) c.in-Ok.ensures.found

pub returns-in-Err : goal.returns-in-Err
unfolding figures figures_for figures_give
returns-in-Err c = rw (c.number.ensures, c.place.ensures) (ap (figures_for _) c.in-Err.ensures.found)
