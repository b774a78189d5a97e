-- `shape::roles::roles_at` meets its contract. The loop's invariant: of the vertices passed the words hold the starts and the ends.
use Rattle.model.specs.Graph.{starts, ends}
use Rattle.model.specs.Records.{shape_at}
use Rattle.shape.proofs.RoleWords.{Known}
use Rattle.shape.proofs.roles.roles_at.Given as goal

abbrev pub invariant-loop-v : goal.invariant-loop-v
invariant-loop-v l =
    let t = shape_at l.task.set.now l.task.place in Known (starts t) l.v l.starts × Known (ends t) l.v l.ends
