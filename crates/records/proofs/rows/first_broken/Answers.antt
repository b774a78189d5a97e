-- `records::rows::first_broken` meets its contract: the first broken record is among those that are there, or is the first that is missing.
use mathlib.Core.Path.{ap}
use native.Mathlib.Omega.{arith}
use Rattle.records.proofs.Tabled.{sized}
use Rattle.records.proofs.Judging.{behind_is, broken_first}
use Rattle.records.proofs.rows.first_broken.Goals.{After-first_vertex-v, After-record_at-task, Start}
use Rattle.records.proofs.rows.first_broken.Goals as goal

pub overflow_add-n : goal.overflow_add-n
overflow_add-n c =
    let size = sized c.requires in
    omega (arith, behind_is c.args.set.now c.args.place c.record_at-task.ensures)

pub returns-then-v-n : goal.returns-then-v-n
returns-then-v-n c =
    let count = behind_is c.args.set.now c.args.place c.record_at-task.ensures in
    broken_first c.args.set.now c.args.place c.min.result c.first_vertex-v.result (omega arith) c.first_vertex-v.ensures (λ e l. omega arith)

pub first_edge-requires-clause-n_value : goal.first_edge-requires-clause-n_value
first_edge-requires-clause-n_value c =
    let size = sized c.requires in
    let vertices = ap (λ f. f.b) c.record_at-task.ensures in
    (vertices, omega arith, omega arith, omega arith)

pub returns : goal.returns
returns c =
    let count = behind_is c.args.set.now c.args.place c.record_at-task.ensures in
    broken_first c.args.set.now c.args.place c.min-there.result c.first_edge.result (omega arith) c.first_edge.ensures (λ e l. omega arith)
