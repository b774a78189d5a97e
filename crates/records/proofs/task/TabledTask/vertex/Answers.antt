-- `records::task::TabledTask::vertex` meets its contract: the record of each vertex is there.
use Prim.Native.Nat.{◌+◌, ◌<◌}
use native.Mathlib.Omega.{arith}
use Rattle.model.specs.Records.{records}
use Rattle.records.proofs.Tabled.{vertex_there}
use Rattle.records.proofs.task.TabledTask.vertex.Goals.{Start}
use Rattle.records.proofs.task.TabledTask.vertex.Goals as goal

there : (c : Start) → c.args.self.place + 1 + c.args.v < records c.args.self.set.now
there c = vertex_there c.args.self.tabled c.args.v c.requires

pub overflow_add-self-2 : goal.overflow_add-self-2
overflow_add-self-2 c = omega (arith, there (goal.at.overflow_add-self-2 c).Start)

pub record_at-requires : goal.record_at-requires
record_at-requires c = omega (arith, there (goal.at.record_at-requires c).Start)
