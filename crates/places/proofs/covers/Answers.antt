-- `places::covers` meets its contract: the difference is within the run where the tick is within its end.
use Prim.Native.Nat.{◌+◌, ◌-◌}
use mathlib.Core.Path.{refl}
use native.Mathlib.Omega.{arith}
use lib.Dec.{leb}
use borrow.Author.Tests.{leb-true, le-leb, lt-ltb, le-ltb}
use Rattle.model.proofs.Ranges.{same_test}
use Rattle.places.proofs.covers.Goals as goal

pub returns-then-from-tick : goal.returns-then-from-tick
returns-then-from-tick c =
    let a = c.args in
    rw (lt-ltb a.from a.tick (omega arith))
    (same_test (leb (a.tick - a.from) a.run) (leb a.tick (a.from + a.run))
    (λ e. let within = leb-true (a.tick - a.from) a.run e in le-leb a.tick (a.from + a.run) (omega arith))
    (λ e. let within = leb-true a.tick (a.from + a.run) e in le-leb (a.tick - a.from) a.run (omega arith)))

pub returns-else-from-tick : goal.returns-else-from-tick
returns-else-from-tick c = rw (le-ltb c.args.from c.args.tick (omega arith)) refl
