-- `entries::layers` meets its contract: the speed, then the task asked for, then its layers.
use mathlib.Core.Path.{◌≡◌, sym, ◌∙◌}
use mathlib.Core.Bool.{true}
use Rattle.model.specs.Speeds.{speed_fits}
use Rattle.model.specs.Entries.{layered_for}
use Rattle.answers.proofs.Lent.{refuses}
use Rattle.entries.proofs.Asking.{bad_speed, at_speed_lem}
use Rattle.entries.proofs.layers.Goals.{Else-not-speed_fits}
use Rattle.entries.proofs.layers.Goals as goal

-- past the test of the speed
fits : (c : Else-not-speed_fits) → speed_fits c.args.p c.args.q ≡ true
fits c = sym c.speed_fits.ensures ∙ c.if-not-speed_fits.false

pub returns-then-not-speed_fits : goal.returns-then-not-speed_fits
returns-then-not-speed_fits c = refuses _ c.no_layers.ensures ∙ bad_speed _ _ _ _ _ (sym c.speed_fits.ensures ∙ c.if-not-speed_fits.true)

pub returns-in-Ok : goal.returns-in-Ok
returns-in-Ok c =
    at_speed_lem _ _ _ _ _ (fits (goal.at.returns-in-Ok c).Else-not-speed_fits) c.in-Ok.ensures.found
    (rw c.in-Ok.ensures.same_set at c.layers_of.ensures)

pub returns-in-Err : goal.returns-in-Err
unfolding layered_for
returns-in-Err c =
    at_speed_lem _ _ _ _ _ (fits (goal.at.returns-in-Err c).Else-not-speed_fits) c.in-Err.ensures.found
    (rw (← c.number.ensures, ← c.place.ensures) (refuses _ c.no_layers-in-Err.ensures))
