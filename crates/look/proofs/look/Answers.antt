-- `look::look` meets its contract.
use Prim.Native.Nat.{ℕ, ◌+◌, ◌-◌, ◌≤◌, ◌<◌}
use mathlib.Core.Path.{◌≡◌, sym}
use mathlib.Core.Bool.{false}
use native.Mathlib.Omega.{arith}
use Rattle.std.proofs.lemmas.Result.{err_from_is_err_and}
use Rattle.units.specs.Rack.{total_at, overruns_on}
use Rattle.curve.specs.Charts.{curves}
use Rattle.curve.proofs.Charts.{charts_fill}
use Rattle.rough.specs.Rough.{Clears}
use Rattle.slopes.specs.Lines.{Falls}
use Rattle.look.proofs.Looking.{top_room, over_found, left_clear, clear_on}
use Rattle.look.proofs.look.Goals.{After-clear_roughly-left, In-loop-left, After-lines_at-line, In_ok-left}
use Rattle.look.proofs.look.Goals as goal

-- what the rough look clears, of the tasks of the charts
rough : (c : After-clear_roughly-left) → let a = c.args in Clears a.search.now.load.now.rack (curves a.search.now.load.now.tasks.now) c.clear_roughly-left.result.0 (a.end.0 - 1 + 1)
rough c = c.clear_roughly-left.ensures (curves c.args.search.now.load.now.tasks.now) (charts_fill c.args.search.now.load.now.tasks.now)

-- the tick at the top of a line is within the limit
tick : (c : In-loop-left) → c.loop-left.left ≤ c.args.end.0
tick c = omega (arith, c.loop-left.invariant.within, (rough (goal.at.In-loop-left c).After-clear_roughly-left).within, c.if-end-fine.false)

pub lines_at-line-requires : goal.lines_at-line-requires
lines_at-line-requires c =
    let below = tick (goal.at.lines_at-line-requires c).In-loop-left in
    (omega (arith, c.requires.le_fine.0, c.loop-left-test.true), omega (arith, below, c.requires.le_fine.1))

-- the line is that of the tasks of the search
line : (c : After-lines_at-line) → let load = c.args.search.now.load.now in
    Falls (total_at load.rack.speed (curves load.tasks.now)) (c.loop-left.left - 1) c.lines_at-line.result
line c = rw (sym c.loop-left.invariant.same) c.lines_at-line.ensures.line

pub follow_down-requires-clause-bound_nonzero : goal.follow_down-requires-clause-bound_nonzero
follow_down-requires-clause-bound_nonzero c =
    let below = tick (goal.at.follow_down-requires-clause-bound_nonzero c).In-loop-left in
    let load = c.args.search.now.load.now in
    let room =
    top_room load.tasks.now load.rack load.on_rack c.bound_of-bound.ensures.0 (line (goal.at.follow_down-requires-clause-bound_nonzero c).After-lines_at-line) load.few
    (omega (arith, below, c.requires.le_fine.1)) in
    (c.bound_of-bound.ensures.1, omega arith, room.0, room.1)

pub returns-in_err-left-clause-found : goal.returns-in_err-left-clause-found
returns-in_err-left-clause-found c =
    let below = tick (goal.at.returns-in_err-left-clause-found c).In-loop-left in
    let a = c.args in
    let load = a.search.now.load.now in
    let found =
    over_found load.tasks.now load.rack load.on_rack c.bound_of-bound.ensures.0 (line (goal.at.returns-in_err-left-clause-found c).After-lines_at-line) a.fine.0
    c.in_err-left.field-0.0 c.in_err-left.ensures in
    let e = err_from_is_err_and c.from_residual.result c.from_residual.ensures.1 in
    rw (e.1, e.2) (found.0, omega (arith, below, found.1), found.2)

-- what the line clears is clear up to where the rough look ended
cleared : (c : In_ok-left) → let a = c.args in
    (c.in_ok-left.left < c.loop-left.left)
    × ((y : ℕ) → c.in_ok-left.left ≤ y → y < c.clear_roughly-left.result.0 → overruns_on a.search.now.load.now.rack (curves a.search.now.load.now.tasks.now) y ≡ false)
cleared c =
    let a = c.args in
    let load = a.search.now.load.now in
    let left =
    left_clear load.tasks.now load.rack load.on_rack c.bound_of-bound.ensures.0 (line (goal.at.In_ok-left c).After-lines_at-line) a.fine.0
    c.in_ok-left.left c.clear_roughly-left.result.0 c.in_ok-left.ensures (λ y above short. c.loop-left.invariant.clear y (omega arith) short) in
    (omega (arith, left.0, c.loop-left-test.true), left.1)

pub loop-left-smaller : goal.loop-left-smaller
loop-left-smaller c = (cleared (goal.at.loop-left-smaller c).In_ok-left).0

pub loop-left-preserved : goal.loop-left-preserved
loop-left-preserved c =
    let left = cleared (goal.at.loop-left-preserved c).In_ok-left in
    record { same = rw (c.lines_at-line.ensures.same, c.loop-left.invariant.same); within = omega (arith, left.0, c.loop-left.invariant.within); clear = left.1 }

pub returns-clause-found : goal.returns-clause-found
returns-clause-found c y above short =
    let a = c.args in
    clear_on a.search.now.load.now.rack (curves a.search.now.load.now.tasks.now) (rough (goal.at.returns-clause-found c).After-clear_roughly-left)
    (λ x low high. c.loop-left.invariant.clear x (omega (arith, c.loop-left-test.false, low)) high) y above (omega (arith, short))
