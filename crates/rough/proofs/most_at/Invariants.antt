-- `rough::most_at` meets its contract. The loop's invariant: the sum is that over the tasks passed.
use mathlib.Core.Path.{◌≡◌}
use mathlib.Core.List.{map}
use Rattle.rough.proofs.RoughLook.{mosts}
use Rattle.rough.proofs.most_at.Given as goal

abbrev pub invariant-loop-task : goal.invariant-loop-task
invariant-loop-task g l = l.sum ≡ mosts (map g.T.Figured.told l.load.tasks.now) l.load.rack.speed l.x.0 l.task-index
