-- `demand::demand_at` meets its contract: one way through it for a tick past the broken period's deadline, and one for a tick before
-- it.
use Prim.Native.Nat.{ℕ, ◌+◌, ◌*◌, ◌/◌, ◌≤◌, ◌<◌}
use native.Mathlib.Omega.{arith}
use Rattle.model.proofs.Bounds.{word}
use Rattle.demand.proofs.TableDemand.{Fitting, fitting, period_ticks, piece_few, demand_room, Scaled, demand_past, demand_before}
use Rattle.demand.proofs.demand_at.Goals.{After-holds-volume, Start}
use Rattle.demand.proofs.demand_at.Goals as goal

fits : (c : Start) → Fitting c.args.speed c.args.chart.now.figures
fits c = fitting c.args.chart.now c.args.speed c.requires.0

pub clock-due-requires : goal.clock-due-requires
clock-due-requires c = (fits (goal.at.clock-due-requires c).Start).deadline

pub clock-period-requires : goal.clock-period-requires
clock-period-requires c = (fits (goal.at.clock-period-requires c).Start).period

pub holds-volume-requires : goal.holds-volume-requires
holds-volume-requires c = (fits (goal.at.holds-volume-requires c).Start).volume

-- the three figures in hand
scaled : (c : After-holds-volume) → let a = c.args in
    Scaled a.speed a.chart.now.figures
    c.clock-due.result.0 c.clock-period.result.0 c.holds-volume.result.0
scaled c = record {
  deadline = c.clock-due.ensures;
  period = c.clock-period.ensures;
  volume = c.holds-volume.ensures;
}

ticks : (c : After-holds-volume) → 0 < c.clock-period.result.0
ticks c =
    period_ticks c.args.chart.now c.args.speed c.requires.0 (scaled c).period

-- room for the whole periods and a part of the broken one
room : (c : After-holds-volume) (rest : ℕ) → rest ≤ c.holds-volume.result.0
    → let x = c.args.x.0 in
    c.holds-volume.result.0 * (x / c.clock-period.result.0) + rest < word
room c rest few =
    demand_room c.args.chart.now c.args.speed c.requires.0 c.args.x.0
    c.clock-period.result.0 rest c.requires.1 (scaled c).volume few

pub nonzero_div-whole : goal.nonzero_div-whole
nonzero_div-whole c = ticks (goal.at.nonzero_div-whole c).After-holds-volume

pub overflow_mul-whole : goal.overflow_mul-whole
overflow_mul-whole c = omega (arith, room (goal.at.overflow_mul-whole c).After-holds-volume 0 (omega arith))

pub nonzero_rem-r : goal.nonzero_rem-r
nonzero_rem-r c = ticks (goal.at.nonzero_rem-r c).After-holds-volume

pub overflow_add-result : goal.overflow_add-result
overflow_add-result c =
    let figures = (goal.at.overflow_add-result c).After-holds-volume in
    omega (arith, room figures figures.holds-volume.result.0 (omega arith))

pub returns-then-due-r : goal.returns-then-due-r
returns-then-due-r c = demand_past c.args.chart.now _ (scaled (goal.at.returns-then-due-r c).After-holds-volume) c.if-due-r.true

pub overflow_add-result-2 : goal.overflow_add-result-2
overflow_add-result-2 c =
    let figures = (goal.at.overflow_add-result-2 c).After-holds-volume in
    let left = c.remaining-part in
    let few = piece_few c.args.chart.now c.args.speed c.requires.0 figures.holds-volume.ensures left.ensures in
    omega (arith, room figures left.result.value.0 few)

pub returns : goal.returns
returns c =
    let figures = (goal.at.returns c).After-holds-volume in
    demand_before c.args.chart.now _ (scaled figures) c.if-due-r.false c.remaining-part.ensures
