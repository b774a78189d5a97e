-- `tasks::times_at` meets its contract. The loop's invariant: the job times of the vertices passed are read.
use Rattle.tasks.proofs.JobTimes.{Timed}
use Rattle.tasks.proofs.times_at.Given as goal

abbrev pub invariant-loop-v : goal.invariant-loop-v
invariant-loop-v l = Timed l.task.set.now l.task.place l.v l.times
