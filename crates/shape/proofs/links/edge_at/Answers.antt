-- `shape::links::edge_at` meets its contract: the record is there, and both its ends are vertices.
use Prim.Native.Nat.{◌+◌, ◌<◌}
use native.Mathlib.Omega.{arith}
use Rattle.model.specs.Records.{records}
use Rattle.shape.proofs.Edges.{edge_there, edge_low}
use Rattle.shape.proofs.links.edge_at.Goals.{Start}
use Rattle.shape.proofs.links.edge_at.Goals as goal

there : (c : Start) → c.args.task.place + 1 + c.args.n + c.args.j < records c.args.task.set.now
there c = edge_there c.args.task.tabled c.requires.0 c.requires.1

pub overflow_add-task-2 : goal.overflow_add-task-2
overflow_add-task-2 c = omega (arith, there (goal.at.overflow_add-task-2 c).Start)

pub overflow_add-task-3 : goal.overflow_add-task-3
overflow_add-task-3 c = omega (arith, there (goal.at.overflow_add-task-3 c).Start)

pub record_at-requires : goal.record_at-requires
record_at-requires c = there (goal.at.record_at-requires c).Start

pub returns : goal.returns
returns c =
    record { edge = c.record_at.ensures; ends = edge_low c.args.task.tabled c.requires.0 c.requires.1 c.record_at.ensures }
