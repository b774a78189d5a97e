-- `bound::stop::line_above` meets its contract.
use Prim.Native.Nat.{◌+◌, ◌-◌, ◌*◌, ◌/◌}
use mathlib.Core.Path.{◌≡◌}
use native.Mathlib.Nat.{le_trans}
use native.Mathlib.Omega.{arith}
use Rattle.curve.specs.Figured.{outline}
use Rattle.demand.proofs.TableDemand.{Fitting, figures_fit}
use Rattle.bound.specs.LineAbove.{work_of, late_of}
use Rattle.bound.proofs.LastTick.{AboveFits, above_fits}
use Rattle.bound.proofs.stop.line_above.Goals.{After-runs-length, Start}
use Rattle.bound.proofs.stop.line_above.Goals as goal

-- the figures of the task fit their words
figures : (c : Start) → Fitting c.args.speed c.args.figures
figures c = figures_fit c.args.speed c.args.figures c.requires.in_range.0 c.requires.speed_in_range

pub holds-volume-requires : goal.holds-volume-requires
holds-volume-requires c = (figures (goal.at.holds-volume-requires c).Start).volume

pub clock-period-requires : goal.clock-period-requires
clock-period-requires c = (figures (goal.at.clock-period-requires c).Start).period

pub clock-due-requires : goal.clock-due-requires
clock-due-requires c = (figures (goal.at.clock-due-requires c).Start).deadline

pub runs-length-requires : goal.runs-length-requires
runs-length-requires c = (figures (goal.at.runs-length-requires c).Start).length

pub nonzero_div-work : goal.nonzero_div-work
nonzero_div-work c = le_trans c.requires.in_range.0.some c.requires.in_range.0.constrained

-- room for each part of the line
room : (c : Start) → let a = c.args in AboveFits a.speed a.h (outline a.figures)
room c =
    let a = c.args in
    above_fits a.speed a.h c.requires.in_range.0 c.requires.in_range.1 c.requires.speed_in_range c.requires.fits

-- the line is made of the figures in hand
made : (c : After-runs-length) → let a = c.args in
    let work = c.holds-volume.result.0 * (a.h / a.figures.period.0) in
    (work ≡ work_of a.speed a.h (outline a.figures))
    × (work
    * (c.clock-period.result.0 - c.clock-due.result.0 + c.runs-length.result.0)
    ≡ late_of a.speed a.h (outline a.figures))
unfolding work_of late_of
made c =
    let volume = c.holds-volume.ensures in
    (rw volume, rw (volume, c.clock-period.ensures, c.clock-due.ensures, c.runs-length.ensures))

pub overflow_mul-work : goal.overflow_mul-work
overflow_mul-work c =
    let found = (goal.at.overflow_mul-work c).After-runs-length in
    omega (arith, (made found).0, (room (goal.at.overflow_mul-work c).Start).work)

pub overflow_sub-late : goal.overflow_sub-late
overflow_sub-late c = omega (arith, (room (goal.at.overflow_sub-late c).Start).due)

pub overflow_add-late : goal.overflow_add-late
overflow_add-late c =
    let fits = room (goal.at.overflow_add-late c).Start in
    omega arith

pub overflow_mul-late : goal.overflow_mul-late
overflow_mul-late c =
    let found = (goal.at.overflow_mul-late c).After-runs-length in
    omega (arith, (made found).1, (room (goal.at.overflow_mul-late c).Start).late)

pub returns : goal.returns
returns c = made (goal.at.returns c).After-runs-length
