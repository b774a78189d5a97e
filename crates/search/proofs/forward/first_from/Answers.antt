use Prim.Native.Nat.{◌+◌, ◌*◌, ◌≤◌, ◌<◌}
use mathlib.Core.Path.{sym, ◌∙◌}
use native.Mathlib.Omega.{arith}
use lib.ListN.{length}
use Rattle.model.specs.Limits.{most_tick}
use Rattle.model.proofs.Bounds.{word, bound_fits}
use Rattle.demand.proofs.TableDemand.{parts}
use Rattle.curve.specs.Charts.{curves}
use Rattle.curve.proofs.Charts.{curves_count}
use Rattle.demand.proofs.Totals.{total_room, scaled_room}
use Rattle.slopes.proofs.Lining.{at_end}
use Rattle.search.specs.Marks.{Marked}
use Rattle.search.proofs.Marking.{marked_first}
use Rattle.search.proofs.MarkToMark.{all_tasks, rise_room, rise_scaled, stop_ahead, Stride, stride}
use Rattle.search.proofs.forward.first_from.Goals.{After-first_over-over, After-reach_of-line, After-renew}
use Rattle.search.proofs.forward.first_from.Goals as goal

pub loop-x-init : goal.loop-x-init
loop-x-init c =
    let load = c.args.search.now.load.now in (
      omega arith,
      at_end c.lines_at-w.ensures.line,
      c.requires.by_index,
      marked_first (curves load.tasks.now) load.rack.speed c.args.from.0 (omega (arith, load.few, curves_count load.tasks.now)),
      c.lines_at-w.ensures.same,
    )

-- the marks are those of the tasks of the search
marked : (c : After-renew) → let load = c.args.search.now.load.now in Marked (curves load.tasks.now) load.rack.speed c.loop-x.x 1 c.renew.new.marks
marked c = rw (sym c.loop-x.invariant.4) c.renew.ensures.marked

pub reach_of-line-requires : goal.reach_of-line-requires
reach_of-line-requires c =
    let load = c.args.search.now.load.now in
    rise_room load.tasks.now load.rack (marked (goal.at.reach_of-line-requires c).After-renew) load.few load.on_rack.speed
    (omega (arith, c.requires.le_from.2, c.loop-x-test.true))

-- the next stop is ahead
ahead : (c : After-reach_of-line) → (c.loop-x.x < c.reach_of-line.result.next) × (c.reach_of-line.result.next ≤ c.args.end.0)
ahead c =
    let load = c.args.search.now.load.now in
    stop_ahead load.tasks.now load.rack (marked (goal.at.After-reach_of-line c).After-renew) load.few
    c.loop-x.invariant.1 c.reach_of-line.ensures.1 c.reach_of-line.ensures.0 c.loop-x-test.true

-- what the turn finds
strode : (c : After-first_over-over) → let load = c.args.search.now.load.now in
    Stride (curves load.tasks.now) load.rack
    c.loop-x.x c.loop-x.w c.reach_of-line.result.slope c.reach_of-line.result.next c.first_over-over.result
    c.renew.new.marks
strode c =
    let load = c.args.search.now.load.now in
    stride load.tasks.now load.rack (marked (goal.at.After-first_over-over c).After-renew) load.few
    c.loop-x.invariant.1 c.reach_of-line.ensures.1 c.reach_of-line.ensures.0 c.loop-x-test.true
    c.bound_of-bound.ensures.0 c.first_over-over.ensures

pub overflow_sub-run : goal.overflow_sub-run
overflow_sub-run c = omega (arith, (ahead (goal.at.overflow_sub-run c).After-reach_of-line).0)

pub first_over-over-requires : goal.first_over-over-requires
first_over-over-requires c =
    let load = c.args.search.now.load.now in
    let speed = load.rack.speed in
    let tick : c.loop-x.x ≤ most_tick = omega (arith, c.requires.le_from.2, c.loop-x-test.true) in (
      scaled_room load.tasks.now (length load.tasks.now) speed c.loop-x.x (c.loop-x.invariant.1 ∙ all_tasks load.tasks.now speed c.loop-x.x)
          load.few load.on_rack.speed (omega arith),
      rw c.bound_of-bound.ensures.0
          (bound_fits load.rack.m speed.p speed.q c.loop-x.x load.on_rack.few (parts speed load.on_rack.speed).1 tick),
      rise_scaled load.tasks.now load.rack (marked (goal.at.first_over-over-requires c).After-renew) load.few load.on_rack.speed tick
          c.reach_of-line.ensures.1,
    )

-- room for W there
fits : (c : After-first_over-over) → c.loop-x.w + c.reach_of-line.result.slope * c.first_over-over.result < word
fits c =
    let load = c.args.search.now.load.now in
    let last = (ahead (goal.at.After-first_over-over c).After-reach_of-line).1 in
    total_room load.tasks.now (length load.tasks.now) load.rack.speed _ ((strode c).value ∙ all_tasks load.tasks.now load.rack.speed _) load.few
    load.on_rack.speed (omega (arith, (strode c).within, c.requires.le_from.2))

pub overflow_mul-w : goal.overflow_mul-w
overflow_mul-w c = omega (arith, fits (goal.at.overflow_mul-w c).After-first_over-over)

pub overflow_add-w : goal.overflow_add-w
overflow_add-w c = omega (arith, fits (goal.at.overflow_add-w c).After-first_over-over)

pub overflow_add-x : goal.overflow_add-x
overflow_add-x c =
    let first = (goal.at.overflow_add-x c).After-first_over-over in
    omega (arith, (strode first).within, (ahead (goal.at.overflow_add-x c).After-reach_of-line).1, c.requires.le_from.2)

pub returns-then-over-run : goal.returns-then-over-run
returns-then-over-run c =
    let turn = strode (goal.at.returns-then-over-run c).After-first_over-over in
    let last = (ahead (goal.at.returns-then-over-run c).After-reach_of-line).1 in
    (omega (arith, c.if-over-run.true), turn.found c.if-over-run.true, turn.clear c.loop-x.invariant.2, turn.value)

pub loop-x-smaller : goal.loop-x-smaller
loop-x-smaller c =
    let first = (goal.at.loop-x-smaller c).After-first_over-over in
    omega (arith, (strode first).within, ahead (goal.at.loop-x-smaller c).After-reach_of-line, c.if-over-run.false, c.loop-x-test.true)

pub loop-x-preserved : goal.loop-x-preserved
loop-x-preserved c =
    let turn = strode (goal.at.loop-x-preserved c).After-first_over-over in (
      omega (arith, turn.within, (ahead (goal.at.loop-x-preserved c).After-reach_of-line).1),
      turn.value,
      turn.clear c.loop-x.invariant.2,
      turn.marked,
      c.renew.ensures.same ∙ c.loop-x.invariant.4,
    )
