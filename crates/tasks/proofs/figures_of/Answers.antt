-- `tasks::figures_of` meets its contract. The figures tell their task, so with its jobs they make its curve.
use Prim.Native.Nat.{◌+◌, ◌-◌, ◌≤◌}
use mathlib.Core.Path.{◌≡◌, sym, ◌∙◌, ap, subst}
use native.Mathlib.Omega.{arith}
use lib.Dec.{ltb}
use lib.ListN.{get_or}
use Rattle.model.specs.Limits.{most_vertices}
use Rattle.model.specs.Graph.{size}
use Rattle.model.specs.Records.{shape_at, task_at}
use Rattle.model.proofs.Table.{size_at}
use Rattle.records.proofs.Tabled.{sized}
use Rattle.records.proofs.ReadableTask.{readable_at}
use Rattle.curve.specs.Sheets.{Walks}
use Rattle.curve.specs.Tables.{work_left}
use Rattle.piece.proofs.Pieces.{a_tick_down}
use Rattle.tasks.proofs.TableCurve.{volume_walks, figures_tell}
use Rattle.tasks.proofs.WordWalks.{Whole}
use Rattle.tasks.proofs.figures_of.Goals.{After-arm_piece-first, After-below-vertices, After-record_at-head}
use Rattle.tasks.proofs.figures_of.Goals as goal

-- the task has from 1 to 64 vertices, and its record tells how many
small : (c : After-record_at-head) → (1 ≤ c.record_at-head.result.b) × (c.record_at-head.result.b ≤ most_vertices)
small c =
    let s = sized c.args.task.readable.tabled.task in
    subst (λ f. (1 ≤ f.b) × (f.b ≤ most_vertices)) (sym c.record_at-head.ensures) (s.low, s.high)

told : (c : After-record_at-head) → let args = c.args in
    c.record_at-head.result.b ≡ size (shape_at args.task.set.now args.task.place)
told c = ap (λ f. f.b) c.record_at-head.ensures ∙ sym (size_at _ _)

whole : (c : After-below-vertices) → let args = c.args in
    Whole (shape_at args.task.set.now args.task.place) c.below-vertices.result
whole c u = c.below-vertices.ensures u ∙ ap (ltb u) (told (goal.at.After-below-vertices c).After-record_at-head)

pub below-vertices-requires : goal.below-vertices-requires
below-vertices-requires c = (small c).1

-- the walk over all the vertices has room
walks : (c : After-below-vertices) → Walks c.args.jobs.now 1 c.below-vertices.result
unfolding task_at
walks c =
    let pre = c.requires in
    volume_walks (readable_at _ _ c.args.task.readable) _ pre.times_of pre.ends_of pre.arm_table _ (whole c)

pub arm_piece-first-requires-clause-walks : goal.arm_piece-first-requires-clause-walks
arm_piece-first-requires-clause-walks c = walks c

-- a tick below tick 1 all of the work is left
all_left : (c : After-arm_piece-first) →
    work_left c.args.jobs.now 1 c.below-vertices.result 0
    ≡ c.arm_piece-first.result.value.0 + c.arm_piece-first.result.slope
all_left c = a_tick_down c.arm_piece-first.ensures

pub overflow_sub-result : goal.overflow_sub-result
overflow_sub-result c = (small (goal.at.overflow_sub-result c).After-record_at-head).0

pub offset_bounds-jobs-n : goal.offset_bounds-jobs-n
offset_bounds-jobs-n c = omega (arith, small (goal.at.offset_bounds-jobs-n c).After-record_at-head)

pub bounds-jobs-n : goal.bounds-jobs-n
bounds-jobs-n c = omega (arith, small (goal.at.bounds-jobs-n c).After-record_at-head)

pub overflow_add-result : goal.overflow_add-result
overflow_add-result c = record { fits = omega (arith, (walks (goal.at.overflow_add-result c).After-below-vertices).sum 0, all_left (goal.at.overflow_add-result c).After-arm_piece-first) }

pub returns : goal.returns
unfolding task_at
returns c =
    let task = (goal.at.returns c).After-record_at-head in
    let tells =
    figures_tell (readable_at _ _ c.args.task.readable) _ c.requires.times_of c.requires.ends_of c.requires.arm_table _
    (record {
      deadline = ap (λ f. f.c) task.record_at-head.ensures;
      period = ap (λ f. f.d) task.record_at-head.ensures;
      length = ap (λ n. get_or c.args.jobs.now.ends (n - 1) 0) (told task);
      volume = sym (all_left (goal.at.returns c).After-arm_piece-first);
      vertices = whole (goal.at.returns c).After-below-vertices;
    }) in
    record { sheet = tells.0; told = tells.1 }
