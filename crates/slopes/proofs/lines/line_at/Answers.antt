-- `slopes::lines::line_at` meets its contract: the line around the tick, down from it.
use Prim.Native.Nat.{◌+◌, ◌-◌, ◌*◌, ◌<◌}
use native.Mathlib.Omega.{arith}
use Rattle.model.proofs.Bounds.{word}
use Rattle.units.specs.Rack.{demand_at}
use Rattle.curve.specs.Charts.{chart_curve}
use Rattle.slopes.specs.Lines.{Falls}
use Rattle.slopes.proofs.Lining.{line, at_end, falls_from, demand_fits}
use Rattle.slopes.proofs.lines.line_at.Goals.{After-line_around-s}
use Rattle.slopes.proofs.lines.line_at.Goals as goal

-- the line, down from the tick
falls : (c : After-line_around-s) → let a = c.args in
    let s = c.line_around-s.result in
    let run = a.x.0 - s.from.0 in
    Falls (demand_at a.speed (chart_curve a.chart.now)) a.x.0 (line (s.value.0 + s.slope * run) s.slope run)
falls c =
    let found = c.line_around-s.ensures in
    falls_from c.args.speed c.line_around-s.result found.line found.around.0 found.around.1

-- room for its value
room : (c : After-line_around-s) → let s = c.line_around-s.result in
    s.value.0 + s.slope * (c.args.x.0 - s.from.0) < word
room c = demand_fits c.args.speed c.requires.at_speed.0 c.args.chart.now.sheet.curve c.requires.tick.1 (at_end (falls c))

pub overflow_mul-result : goal.overflow_mul-result
overflow_mul-result c = omega (arith, room (goal.at.overflow_mul-result c).After-line_around-s)

pub overflow_add-result : goal.overflow_add-result
overflow_add-result c = omega (arith, room (goal.at.overflow_add-result c).After-line_around-s)

pub returns-clause-line : goal.returns-clause-line
returns-clause-line c = falls (goal.at.returns-clause-line c).After-line_around-s
