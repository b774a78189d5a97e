-- `verdict::periods_at` meets its contract. The loop's invariant: the periods of the places passed are read.
use mathlib.Core.Path.{◌≡◌}
use lib.ListN.{length}
use Rattle.model.specs.Limits.{most_tasks}
use Rattle.verdict.proofs.PeriodTable.{Read}
use Rattle.verdict.proofs.periods_at.Given as goal

abbrev pub invariant-loop-i : goal.invariant-loop-i
invariant-loop-i l = record { long : length l.periods ≡ most_tasks; read : Read l.set l.places l.i l.periods }
