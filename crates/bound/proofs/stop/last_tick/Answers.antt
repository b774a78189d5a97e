-- `bound::stop::last_tick` meets its contract.
use Prim.Native.Nat.{◌+◌, ◌<◌}
use mathlib.Core.Path.{◌≡◌, ◌∙◌}
use mathlib.Core.List.{List, map}
use native.Mathlib.Omega.{arith}
use lib.ListN.{length, get_or}
use Rattle.model.specs.Curve.{Curve, common_cycle}
use Rattle.curve.specs.Charts.{no_curve}
use Rattle.curve.specs.Figured.{Tells, AllFill}
use Rattle.curve.proofs.Telling.{told_count, told_low, tells_at, outline_range, fill_limited}
use Rattle.bound.specs.Moves.{Enough}
use Rattle.bound.proofs.LastTick.{each_lawful, loads, lates, sum_more, loads_room, lates_room, line_told, fits_told, loads_fill, lates_fill, timely_fill, cycle_looked, lines_looked}
use Rattle.bound.proofs.stop.last_tick.Given.{Over}
use Rattle.bound.proofs.stop.last_tick.Goals.{After-clock-cycle, After-figures, After-line_above-above}
use Rattle.bound.proofs.stop.last_tick.Goals as goal

-- the figures in hand are those of the curve at this place
here : (g : Over) (c : After-figures g) → Tells c.figures.result (get_or (map g.T.Figured.told c.args.load.now.tasks.now) c.loop-task.task-index no_curve)
here g c = tells_at g.T.Figured.told c.args.load.now.tasks.now c.loop-task-test.true c.task-item.is c.figures.ensures

low : (g : Over) (c : After-figures g) → c.loop-task.task-index < length (map g.T.Figured.told c.args.load.now.tasks.now)
low g c = told_low g.T.Figured.told c.args.load.now.tasks.now c.loop-task-test.true

pub line_above-above-requires-clause-in_range : goal.line_above-above-requires-clause-in_range
line_above-above-requires-clause-in_range g c =
    let item = (goal.at.line_above-above-requires-clause-in_range g c).After-figures in
    (outline_range (here g item) (c.args.load.now.in_range c.loop-task.task-index (low g item)), c.requires.1)

pub line_above-above-requires-clause-fits : goal.line_above-above-requires-clause-fits
line_above-above-requires-clause-fits g c =
    let item = (goal.at.line_above-above-requires-clause-fits g c).After-figures in
    fits_told c.args.load.now.rack.speed (here g item) (c.args.load.now.timely c.loop-task.task-index (low g item))

-- with its line the sums are those of one task more
more : (g : Over) (c : After-line_above-above g) → let loop = c.loop-task in
    let a = c.args in
    let cs = map g.T.Figured.told a.load.now.tasks.now in
    (loop.work + c.line_above-above.result.work ≡ loads cs a.load.now.rack.speed a.h (loop.task-index + 1))
    × (loop.late + c.line_above-above.result.late ≡ lates cs a.load.now.rack.speed a.h (loop.task-index + 1))
more g c =
    let loop = c.loop-task in
    let line = line_told c.args.load.now.rack.speed c.args.h (here g (goal.at.After-line_above-above g c).After-figures) in (
      sum_more loop.task-index _ loop.invariant.0 (rw line.0 at c.line_above-above.ensures.0),
      sum_more loop.task-index _ loop.invariant.1 (rw line.1 at c.line_above-above.ensures.1),
    )

pub overflow_add-work : goal.overflow_add-work
overflow_add-work g c =
    let a = c.args in
    let line = (goal.at.overflow_add-work g c).After-line_above-above in
    let next = low g (goal.at.After-line_above-above g line).After-figures in
    omega (
      arith,
      loads_room (map g.T.Figured.told a.load.now.tasks.now) a.load.now.rack.speed a.h (c.loop-task.task-index + 1) (omega arith)
          (omega (arith, told_count g.T.Figured.told a.load.now.tasks.now, c.args.load.now.few)) c.args.load.now.in_range c.requires.1
          c.args.load.now.on_rack.speed (more g line).0,
    )

pub overflow_add-late : goal.overflow_add-late
overflow_add-late g c =
    let a = c.args in
    let line = (goal.at.overflow_add-late g c).After-line_above-above in
    let next = low g (goal.at.After-line_above-above g line).After-figures in
    omega (
      arith,
      lates_room (map g.T.Figured.told a.load.now.tasks.now) a.load.now.rack.speed a.h (c.loop-task.task-index + 1) (omega arith)
          (omega (arith, told_count g.T.Figured.told a.load.now.tasks.now, c.args.load.now.few)) c.args.load.now.in_range c.requires.1
          c.args.load.now.on_rack.speed c.args.load.now.timely (more g line).1,
    )

pub loop-task-preserved : goal.loop-task-preserved
loop-task-preserved g c = more g (goal.at.loop-task-preserved g c).After-line_above-above

-- where the last tick is that of the cycle
whole : (g : Over) (c : After-clock-cycle g) → let a = c.args in
    (cs : List Curve) → AllFill cs (map g.T.Figured.told a.load.now.tasks.now) → a.h ≡ common_cycle cs → Enough a.load.now.rack cs c.clock-cycle.result.0
whole g c cs all cycle =
    let a = c.args in
    cycle_looked cs a.load.now.rack a.h (each_lawful cs (fill_limited all)) cycle c.requires.0 c.args.load.now.on_rack
    (timely_fill all a.load.now.rack.speed c.args.load.now.timely) c.clock-cycle.ensures

pub returns-then-room-work-clause-enough : goal.returns-then-room-work-clause-enough
returns-then-room-work-clause-enough g c = whole g (goal.at.returns-then-room-work-clause-enough g c).After-clock-cycle

pub returns-then-last-cycle-clause-enough : goal.returns-then-last-cycle-clause-enough
returns-then-last-cycle-clause-enough g c cs all cycle =
    let a = c.args in
    let loop = c.loop-task in
    let end : loop.task-index ≡ length cs = omega (arith, all.even, told_count g.T.Figured.told a.load.now.tasks.now) in
    lines_looked cs a.load.now.rack a.h (each_lawful cs (fill_limited all)) cycle c.requires.0
    (rw end at loop.invariant.0 ∙ loads_fill all a.load.now.rack.speed a.h) (rw end at loop.invariant.1 ∙ lates_fill all a.load.now.rack.speed a.h)
    c.bound_of.ensures.0 c.if-room-work.false

pub returns-else-last-cycle-clause-enough : goal.returns-else-last-cycle-clause-enough
returns-else-last-cycle-clause-enough g c = whole g (goal.at.returns-else-last-cycle-clause-enough g c).After-clock-cycle
