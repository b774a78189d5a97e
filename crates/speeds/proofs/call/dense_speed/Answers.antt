-- `speeds::call::dense_speed` meets its contract: 1/1 for 0/0, any other speed for itself.
use mathlib.Core.Path.{sym, ◌∙◌}
use Rattle.speeds.proofs.call.dense_speed.Goals as goal

pub returns-then-unnamed : goal.returns-then-unnamed
returns-then-unnamed c = rw (sym c.unnamed.ensures ∙ c.if-unnamed.true)

pub returns : goal.returns
returns c = rw (sym c.unnamed.ensures ∙ c.if-unnamed.false)
