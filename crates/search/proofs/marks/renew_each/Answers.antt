use Prim.Native.Nat.{◌≤◌}
use mathlib.Core.Path.{◌≡◌, sym}
use native.Mathlib.Omega.{arith}
use borrow.Author.Count.{below_more}
use lib.ListN.{length, get_or}
use Rattle.model.specs.Limits.{most_tasks}
use Rattle.curve.specs.Charts.{chart_curve, curves, no_curve}
use Rattle.curve.proofs.Charts.{curve_at, curve_low, curves_count}
use Rattle.slopes.specs.Lines.{Grows}
use Rattle.stretch.proofs.Places.{again_kept}
use Rattle.search.proofs.Marking.{renewed, renewed_ahead}
use Rattle.search.proofs.marks.renew_each.Goals.{After-index-charts-i, then-marks-i, else-marks-i}
use Rattle.search.proofs.marks.renew_each.Goals as goal

-- the curve of the task in hand
here : (c : After-index-charts-i) → get_or (curves c.args.charts.now) c.loop-i.i no_curve ≡ chart_curve c.index-charts-i.result
here c = curve_at c.args.charts.now c.loop-i.i c.index-charts-i.result c.loop-i-test.true c.index-charts-i.is

pub step_at-step-requires : goal.step_at-step-requires
step_at-step-requires c =
    let low = curve_low c.args.charts.now c.loop-i-test.true in
    rw (sym (here (goal.at.step_at-step-requires c).After-index-charts-i))
    (record {
      at_speed = (c.requires.speed_in_range.0, c.requires.speed_in_range.1 c.loop-i.i low);
      x_le_most_tick = c.requires.speed_in_range.2;
      kept_before = c.loop-i.invariant.kept c.loop-i.i low _;
    })

pub loop-i-preserved : goal.loop-i-preserved
loop-i-preserved c =
    let cs = curves c.args.charts.now in
    let loop = c.loop-i in
    let low = curve_low c.args.charts.now c.loop-i-test.true in
    let few : length cs ≤ most_tasks = omega (arith, c.requires.few, curves_count c.args.charts.now) in
    elim c.if-marks-i.branch [
      | then-marks-i w ↦
          let is = curve_at c.args.charts.now loop.i w.index-charts-i.result c.loop-i-test.true w.index-charts-i.is in
          let step = w.step_at-step in
          let grows : Grows c.args.speed (get_or cs loop.i no_curve) c.args.x.0 step.result.slope step.result.run = rw is step.ensures.step in
          record {
            marked = rw w.marks-is (renewed cs c.args.speed low few loop.invariant.marked grows);
            ahead = rw w.marks-is (renewed_ahead cs c.args.speed low few loop.invariant.marked grows loop.invariant.ahead);
            kept = rw w.kept-is (again_kept cs loop.kept loop.i loop.invariant.kept low (rw is w.step_at-step.ensures.kept));
          }
      | else-marks-i w ↦ record {
        marked = rw w.marks-is loop.invariant.marked;
        ahead =
            rw w.marks-is
            (below_more _ _ loop.invariant.ahead (omega (arith, loop.invariant.marked.on loop.i low, w.if-marks-i.false)));
        kept = rw w.kept-is loop.invariant.kept;
      }
    ]
