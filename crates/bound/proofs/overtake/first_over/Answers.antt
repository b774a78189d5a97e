-- `bound::overtake::first_over` meets its contract.
use mathlib.Core.Path.{refl}
use Rattle.bound.proofs.Crossing.{at_once, never, crosses, stays}
use Rattle.bound.proofs.overtake.first_over.Goals as goal

pub returns-then-room-asked : goal.returns-then-room-asked
returns-then-room-asked c = at_once _ _ _ _ c.args.slope c.args.run c.if-room-asked.true

pub returns-then-rise-bound : goal.returns-then-rise-bound
returns-then-rise-bound c = never _ _ _ _ _ _ c.if-room-asked.false c.if-rise-bound.true

pub returns-then-under-run : goal.returns-then-under-run
returns-then-under-run c = crosses _ _ _ _ _ _ c.if-room-asked.false c.if-rise-bound.false refl c.if-under-run.true

pub returns-else-under-run : goal.returns-else-under-run
returns-else-under-run c = stays _ _ _ _ _ _ c.if-room-asked.false c.if-rise-bound.false refl c.if-under-run.false
