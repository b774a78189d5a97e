-- `search::first_overrun` meets its contract.
use Prim.Native.Nat.{◌+◌}
use native.Mathlib.Omega.{arith}
use Rattle.curve.specs.Charts.{curves}
use Rattle.curve.proofs.Charts.{charts_fill}
use Rattle.rough.specs.Rough.{Clears}
use Rattle.search.proofs.Narrowing.{both_clear, clear_at_once, clear_further}
use Rattle.search.proofs.first_overrun.Goals.{After-clear_roughly-end}
use Rattle.search.proofs.first_overrun.Goals as goal

-- what the rough look clears
clears : (c : After-clear_roughly-end) → let a = c.args in
    Clears a.load.now.rack (curves a.load.now.tasks.now)
    c.clear_roughly-end.result.0 (a.last.0 + 1)
clears c = c.clear_roughly-end.ensures (curves c.args.load.now.tasks.now) (charts_fill c.args.load.now.tasks.now)

pub returns-then-end-le1 : goal.returns-then-end-le1
returns-then-end-le1 c =
    let rough = (goal.at.returns-then-end-le1 c).After-clear_roughly-end in
    let a = c.args in
    let first =
    clear_at_once a.load.now.tasks.now a.load.now.rack c.args.load.now.timely in
    both_clear _ (λ y l. first y (omega arith)) (clears rough).fine

pub first_below-requires : goal.first_below-requires
first_below-requires c =
    let rough = (goal.at.first_below-requires c).After-clear_roughly-end in
    omega (arith, (clears rough).within, c.requires)

pub returns : goal.returns
returns c =
    let clear = clears (goal.at.returns c).After-clear_roughly-end in
    clear_further _ _ c.first_below.result clear.within clear.fine c.first_below.ensures
