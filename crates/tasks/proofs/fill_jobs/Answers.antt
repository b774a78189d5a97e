-- `tasks::fill_jobs` meets its contract. The edges are read once; ends and arms are told by their words, and the figures by the jobs.
-- A graph that keeps the rules has two arms at each choice.
use Prim.Native.Nat.{◌≤◌}
use mathlib.Core.Path.{sym, ap, subst}
use native.Mathlib.Omega.{arith}
use Rattle.model.specs.Limits.{most_vertices}
use Rattle.model.specs.Records.{shape_at}
use Rattle.records.proofs.Tabled.{sized}
use Rattle.records.proofs.ReadableTask.{readable_at}
use Rattle.shape.proofs.Choices.{rules_split}
use Rattle.tasks.proofs.JobTimes.{all_ended}
use Rattle.tasks.proofs.fill_jobs.Goals as goal

pub latest_ends-requires-clause-n_le_most_vertices : goal.latest_ends-requires-clause-n_le_most_vertices
latest_ends-requires-clause-n_le_most_vertices c =
    subst (λ f. f.b ≤ most_vertices) (sym c.head-n.ensures) (sized c.args.task.readable.tabled.task).high

pub latest_ends-requires-clause-by_index : goal.latest_ends-requires-clause-by_index
latest_ends-requires-clause-by_index c = λ v.
    omega (arith, c.times_at.ensures v, (readable_at _ _ c.args.task.readable).short v)

pub arm_table-jobs-requires-clause-place_value : goal.arm_table-jobs-requires-clause-place_value
arm_table-jobs-requires-clause-place_value c = rules_split (shape_at c.args.task.set.now c.args.task.place) c.args.task.readable.rules

pub figures_of-requires-clause-ends_of : goal.figures_of-requires-clause-ends_of
figures_of-requires-clause-ends_of c =
    all_ended _ _ _ c.links_at.new.links.into c.times_at.new.times c.latest_ends.new.ends (ap (λ f. f.b) c.head-n.ensures)
    c.links_at.ensures.into c.times_at.ensures c.latest_ends.ensures
