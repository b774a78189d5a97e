-- `rough::most_of` meets its contract.
use Prim.Native.Nat.{◌-◌, ◌*◌, ◌/◌, ◌+◌, ◌<◌}
use native.Mathlib.Omega.{arith}
use borrow.Author.Tests.{leb-true}
use Rattle.model.proofs.Bounds.{word}
use Rattle.curve.specs.Figured.{outline}
use Rattle.demand.proofs.TableDemand.{Fitting, figures_fit, turn_some}
use Rattle.rough.proofs.RoughLook.{Paced, most_early, most_late_lem, full_room}
use Rattle.rough.proofs.most_of.Goals.{Start, After-runs}
use Rattle.rough.proofs.most_of.Goals as goal

-- the figures of the task fit their words
fits : (c : Start) → Fitting c.args.speed c.args.figures
fits c = figures_fit c.args.speed c.args.figures c.requires.in_range.0 c.requires.speed_in_range

pub clock-period-requires : goal.clock-period-requires
clock-period-requires c = (fits (goal.at.clock-period-requires c).Start).period

pub holds-volume-requires : goal.holds-volume-requires
holds-volume-requires c = (fits (goal.at.holds-volume-requires c).Start).volume

pub clock-requires : goal.clock-requires
clock-requires c = (fits (goal.at.clock-requires c).Start).deadline

pub runs-requires : goal.runs-requires
runs-requires c = (fits (goal.at.runs-requires c).Start).length

-- the figures in hand are those of the task
paced : (c : After-runs) → let a = c.args in
    Paced a.speed (outline a.figures) c.clock-period.result.0
    c.holds-volume.result.0 (c.clock.result.0 - c.runs.result.0)
paced c =
    record {
      period = c.clock-period.ensures;
      volume = c.holds-volume.ensures;
      latest = rw (c.clock.ensures, c.runs.ensures);
    }

pub overflow_sub-start : goal.overflow_sub-start
overflow_sub-start c =
    let a = c.args in
    omega (arith, leb-true (a.speed.q * a.figures.length.0) (a.speed.p * a.figures.deadline.0) c.requires.fits)

-- a period has ticks
ticks : (c : After-runs) → 0 < c.clock-period.result.0
ticks c = rw ((paced c).period) (turn_some c.args.speed c.args.figures c.requires.in_range.0 c.requires.speed_in_range)

-- room for whole periods and a broken one
room : (c : After-runs) → let work = c.holds-volume.result.0 in
    let turn = c.clock-period.result.0 in
    work * (c.args.x.0 / turn) + work < word
room c =
    full_room c.args.speed c.requires.in_range.0 c.requires.speed_in_range _ (paced c).volume c.requires.in_range.1

pub nonzero_div-whole : goal.nonzero_div-whole
nonzero_div-whole c = ticks (goal.at.nonzero_div-whole c).After-runs

pub overflow_mul-whole : goal.overflow_mul-whole
overflow_mul-whole c = omega (arith, room (goal.at.overflow_mul-whole c).After-runs)

pub nonzero_rem-x : goal.nonzero_rem-x
nonzero_rem-x c = ticks (goal.at.nonzero_rem-x c).After-runs

pub returns-then-x-period : goal.returns-then-x-period
returns-then-x-period c = most_early _ (paced (goal.at.returns-then-x-period c).After-runs) c.if-x-period.true

pub overflow_add-result : goal.overflow_add-result
overflow_add-result c = omega (arith, room (goal.at.overflow_add-result c).After-runs)

pub returns : goal.returns
returns c = most_late_lem _ (paced (goal.at.returns c).After-runs) c.if-x-period.false
