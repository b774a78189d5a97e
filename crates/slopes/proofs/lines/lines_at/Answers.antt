use Prim.Native.Nat.{◌+◌, ◌<◌}
use mathlib.Core.Path.{◌≡◌, sym}
use native.Mathlib.Omega.{arith}
use lib.ListN.{length, get_or}
use Rattle.model.proofs.Bounds.{word}
use Rattle.units.specs.Rack.{demand_at}
use Rattle.curve.specs.Charts.{chart_curve, curves, no_curve}
use Rattle.curve.proofs.Charts.{curve_at, curve_low}
use Rattle.demand.proofs.Totals.{total_more, total_room}
use Rattle.stretch.proofs.Places.{again_kept}
use Rattle.slopes.specs.Lines.{Falls}
use Rattle.slopes.proofs.Lining.{at_end, slope_within, falls_more}
use Rattle.slopes.proofs.lines.lines_at.Goals.{After-index-charts-i, After-line_at-line}
use Rattle.slopes.proofs.lines.lines_at.Goals as goal

-- the curve of the task in hand
low : (c : After-index-charts-i) → c.loop-i.i < length (curves c.args.charts.now)
low c = curve_low c.args.charts.now c.loop-i-test.true

here : (c : After-index-charts-i) → get_or (curves c.args.charts.now) c.loop-i.i no_curve ≡ chart_curve c.index-charts-i.result
here c = curve_at c.args.charts.now c.loop-i.i c.index-charts-i.result c.loop-i-test.true c.index-charts-i.is

pub line_at-line-requires : goal.line_at-line-requires
line_at-line-requires c =
    let now = (goal.at.line_at-line-requires c).After-index-charts-i in
    let i = c.loop-i.i in
    let speed = c.requires.speed_in_range in
    rw (sym (here now))
    (record { at_speed = (speed.0, speed.1 i (low now)); tick = c.requires.x_nonzero; kept = c.loop-i.invariant.1 i (low now) _ })

-- its line
falls : (c : After-line_at-line) → let a = c.args in
    Falls (demand_at a.speed (get_or (curves a.charts.now) c.loop-i.i no_curve)) a.x.0 c.line_at-line.result
falls c = rw (here (goal.at.After-line_at-line c).After-index-charts-i) c.line_at-line.ensures.line

-- room for the value with this task's
room : (c : After-line_at-line) → c.loop-i.value + c.line_at-line.result.value.0 < word
room c =
    let a = c.args in
    let i = c.loop-i.i in
    let more =
    total_more (curves a.charts.now) i a.speed a.x.0 (low (goal.at.After-line_at-line c).After-index-charts-i) (at_end c.loop-i.invariant.0)
    (at_end (falls c)) in
    total_room a.charts.now (i + 1) a.speed a.x.0 more c.requires.few c.requires.speed_in_range.0 (omega (arith, c.requires.x_nonzero.1))

pub overflow_add-value : goal.overflow_add-value
overflow_add-value c = omega (arith, room (goal.at.overflow_add-value c).After-line_at-line)

pub overflow_add-slope : goal.overflow_add-slope
overflow_add-slope c =
    let found = (goal.at.overflow_add-slope c).After-line_at-line in
    omega (arith, room found, slope_within found.loop-i.invariant.0, slope_within (falls found))

pub loop-i-preserved : goal.loop-i-preserved
loop-i-preserved c =
    let now = (goal.at.loop-i-preserved c).After-index-charts-i in
    let loop = c.loop-i in
    let cs = curves c.args.charts.now in
    let all = loop.invariant.0 in
    let one = falls (goal.at.loop-i-preserved c).After-line_at-line in
    let some_all = all.some in
    let some_one = one.some in (
      falls_more cs c.args.speed loop.i (low now) all one (omega arith) (omega arith) (omega arith),
      again_kept cs loop.kept loop.i loop.invariant.1 (low now) (rw (here now) c.line_at-line.ensures.kept),
    )
