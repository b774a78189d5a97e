-- `bound::stop::last_tick` meets its contract. The loop's invariant: work and late are the sums over the tasks passed.
use mathlib.Core.Path.{◌≡◌}
use mathlib.Core.List.{map}
use Rattle.bound.proofs.LastTick.{loads, lates}
use Rattle.bound.proofs.stop.last_tick.Given as goal

abbrev pub invariant-loop-task : goal.invariant-loop-task
invariant-loop-task g l =
    let cs = map g.T.Figured.told l.load.tasks.now in
    (l.work ≡ loads cs l.speed l.h l.task-index) × (l.late ≡ lates cs l.speed l.h l.task-index)
