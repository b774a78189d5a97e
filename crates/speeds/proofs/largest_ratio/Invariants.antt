-- `speeds::largest_ratio` meets its contract. The loop's invariant: the ratio is at most just those speeds that cover the rack and the
-- tasks passed.
use mathlib.Core.List.{map}
use Rattle.speeds.proofs.Covered.{Largest}
use Rattle.speeds.proofs.largest_ratio.Given as goal

abbrev pub invariant-loop-task : goal.invariant-loop-task
invariant-loop-task g l = Largest l.m (map g.T.Figured.told l.tasks) l.task-index l.largest.n l.largest.d
