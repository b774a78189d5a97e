-- `slopes::around::find_line` meets its contract: the stretch around the tick in the broken period, behind the whole ones.
use Prim.Native.Nat.{◌+◌, ◌-◌, ◌*◌, ◌/◌, ◌≤◌, ◌<◌}
use native.Mathlib.Omega.{arith}
use Rattle.model.proofs.Bounds.{word}
use Rattle.curve.specs.Charts.{chart_curve}
use Rattle.demand.proofs.TableDemand.{fitting, period_ticks}
use Rattle.stretch.specs.Stretches.{Somewhere}
use Rattle.places.specs.declared.Stretch.{Stretch}
use Rattle.stretch.proofs.Period.{stretch}
use Rattle.slopes.proofs.Lining.{broken, placed, at_begin, demand_fits}
use Rattle.slopes.proofs.around.find_line.Goals.{After-holds-volume, After-stretch_at-s}
use Rattle.slopes.proofs.around.find_line.Goals as goal

pub clock-period-requires : goal.clock-period-requires
clock-period-requires c = (fitting c.args.chart.now c.args.speed c.requires.at_speed.0).period

pub holds-volume-requires : goal.holds-volume-requires
holds-volume-requires c = (fitting c.args.chart.now c.args.speed c.requires.at_speed.0).volume

-- a period has ticks
ticks : (c : After-holds-volume) → 0 < c.clock-period.result.0
ticks c = period_ticks c.args.chart.now c.args.speed c.requires.at_speed.0 c.clock-period.ensures

-- the tick is one of the period behind the whole ones
rest : (c : After-holds-volume) → let x = c.args.x.0 in let turn = c.clock-period.result.0 in
    (turn * ((x - 1) / turn) < x) × (x - turn * ((x - 1) / turn) ≤ turn)
rest c =
    broken c.args.x.0 (ticks c) c.requires.tick.0

pub nonzero_div-whole : goal.nonzero_div-whole
nonzero_div-whole c = ticks (goal.at.nonzero_div-whole c).After-holds-volume

pub stretch_at-s-requires : goal.stretch_at-s-requires
stretch_at-s-requires c =
    let turn = c.clock-period.ensures in
    let at = rest (goal.at.stretch_at-s-requires c).After-holds-volume in
    record { at_speed = c.requires.at_speed; tick = (omega arith, omega arith); kept = c.requires.kept }

-- the line that is kept
abbrev line : After-stretch_at-s → Stretch
line c =
    let turn = c.clock-period.result.0 in
    let whole = (c.args.x.0 - 1) / turn in
    let s = c.stretch_at-s.result in
    stretch (turn * whole + s.from.0) (c.holds-volume.result.0 * whole + s.value.0) s.slope s.run.0

-- is one of the task
somewhere : (c : After-stretch_at-s) → Somewhere c.args.speed (chart_curve c.args.chart.now) (line c)
somewhere c =
    let turn = c.clock-period in
    let tick = c.requires.tick in
    let at = rest (goal.at.After-stretch_at-s c).After-holds-volume in
    let found = c.stretch_at-s.ensures in
    let around = found.around in
    placed c.args.chart.now c.args.speed c.stretch_at-s.result ((c.args.x.0 - 1) / turn.result.0)
    c.requires.at_speed.0 found.line turn.ensures c.holds-volume.ensures (omega arith)

-- room for its value
room : (c : After-stretch_at-s) → (line c).value.0 < word
room c =
    demand_fits c.args.speed c.requires.at_speed.0 c.args.chart.now.sheet.curve (somewhere c).begins
    (at_begin c.args.speed (line c) (somewhere c))

pub overflow_mul-kept : goal.overflow_mul-kept
overflow_mul-kept c = omega (arith, room (goal.at.overflow_mul-kept c).After-stretch_at-s)

pub overflow_add-kept-2 : goal.overflow_add-kept-2
overflow_add-kept-2 c = omega (arith, room (goal.at.overflow_add-kept-2 c).After-stretch_at-s)

pub returns-clause-kept : goal.returns-clause-kept
returns-clause-kept c =
    record { each = c.stretch_at-s.ensures.kept.each; line = somewhere (goal.at.returns-clause-kept c).After-stretch_at-s }
