-- `slopes::lines::lines_at` meets its contract. The loop's invariant: the line is that of the tasks passed, and each place of every task
-- holds a stretch.
use lib.ListN.{take}
use Rattle.units.specs.Rack.{total_at}
use Rattle.curve.specs.Charts.{curves}
use Rattle.stretch.specs.Stretches.{AllKept}
use Rattle.slopes.specs.Lines.{Falls}
use Rattle.slopes.proofs.Lining.{line}
use Rattle.slopes.proofs.lines.lines_at.Given as goal

abbrev pub invariant-loop-i : goal.invariant-loop-i
invariant-loop-i l =
    Falls (total_at l.speed (take l.i (curves l.charts))) l.x.0 (line l.value l.slope l.run) × AllKept (curves l.charts) l.speed l.kept
