-- `search::walks::allow_walks` meets its contract. The loop's invariant: what was kept of the tasks still is.
use Rattle.curve.specs.Charts.{curves}
use Rattle.stretch.specs.Stretches.{AllKept}
use Rattle.search.proofs.walks.allow_walks.Given as goal

abbrev pub invariant-loop-i : goal.invariant-loop-i
invariant-loop-i l = AllKept (curves l.charts) l.speed l.initial.kept → AllKept (curves l.charts) l.speed l.kept
