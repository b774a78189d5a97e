-- `shape::links::links_at` meets its contract. The loop's invariant: the words hold the edges passed.
use Rattle.shape.proofs.Edges.{Linked}
use Rattle.shape.proofs.links.links_at.Given as goal

abbrev pub invariant-loop-j : goal.invariant-loop-j
invariant-loop-j l = Linked l.task.set.now l.task.place l.j l.links.into l.links.out
