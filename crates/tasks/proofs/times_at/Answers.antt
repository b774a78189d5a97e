use Prim.Native.Nat.{◌<◌}
use mathlib.Core.Path.{subst, ap}
use native.Mathlib.Omega.{arith}
use Rattle.model.specs.Limits.{most_vertices}
use Rattle.model.specs.Records.{fields_at}
use Rattle.records.proofs.Tabled.{sized}
use Rattle.tasks.proofs.JobTimes.{one_timed, all_timed}
use Rattle.tasks.proofs.times_at.Goals.{In-loop-v}
use Rattle.tasks.proofs.times_at.Goals as goal

-- the vertex is one of the task's
below : (c : In-loop-v) → let args = c.args in
    c.loop-v.v < (fields_at args.task.set.now args.task.place).b
below c = subst (λ f. c.loop-v.v < f.b) c.head-n.ensures c.loop-v-test.true

-- it is one of at most 64
low : (c : In-loop-v) → c.loop-v.v < most_vertices
low c = let size = sized c.args.task.tabled.task in omega (arith, below c)

pub offset_bounds-times-v : goal.offset_bounds-times-v
offset_bounds-times-v c = omega (arith, low (goal.at.offset_bounds-times-v c).In-loop-v)

pub bounds-times-v : goal.bounds-times-v
bounds-times-v c = low (goal.at.bounds-times-v c).In-loop-v

pub loop-v-preserved : goal.loop-v-preserved
loop-v-preserved c =
    let turn = (goal.at.loop-v-preserved c).In-loop-v in
    one_timed c.args.task.set.now c.args.task.place turn.loop-v.v turn.loop-v.times (low turn) c.vertex.ensures turn.loop-v.invariant

pub returns : goal.returns
returns c =
    let loop = c.loop-v in
    all_timed c.args.task.set.now c.args.task.place loop.v loop.times (omega (arith, ap (λ f. f.b) c.head-n.ensures)) loop.invariant
