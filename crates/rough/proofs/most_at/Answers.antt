-- `rough::most_at` meets its contract.
use Prim.Native.Nat.{◌+◌, ◌<◌}
use mathlib.Core.Path.{◌≡◌}
use mathlib.Core.List.{map}
use native.Mathlib.Omega.{arith}
use lib.ListN.{length, get_or}
use Rattle.curve.specs.Charts.{no_curve}
use Rattle.curve.specs.Figured.{Tells}
use Rattle.curve.proofs.Telling.{told_count, told_low, tells_at, outline_range}
use Rattle.bound.proofs.LastTick.{sum_more, fits_told}
use Rattle.rough.proofs.RoughLook.{mosts, mosts_room, most_told}
use Rattle.rough.proofs.most_at.Given.{Over}
use Rattle.rough.proofs.most_at.Goals.{After-figures, After-most_of-sum}
use Rattle.rough.proofs.most_at.Goals as goal

-- the figures in hand are those of the curve at this place
here : (g : Over) (c : After-figures g) → Tells c.figures.result (get_or (map g.T.Figured.told c.args.load.now.tasks.now) c.loop-task.task-index no_curve)
here g c = tells_at g.T.Figured.told c.args.load.now.tasks.now c.loop-task-test.true c.task-item.is c.figures.ensures

low : (g : Over) (c : After-figures g) → c.loop-task.task-index < length (map g.T.Figured.told c.args.load.now.tasks.now)
low g c = told_low g.T.Figured.told c.args.load.now.tasks.now c.loop-task-test.true

pub most_of-sum-requires-clause-in_range : goal.most_of-sum-requires-clause-in_range
most_of-sum-requires-clause-in_range g c =
    let item = (goal.at.most_of-sum-requires-clause-in_range g c).After-figures in
    (outline_range (here g item) (c.args.load.now.in_range c.loop-task.task-index (low g item)), c.requires)

pub most_of-sum-requires-clause-fits : goal.most_of-sum-requires-clause-fits
most_of-sum-requires-clause-fits g c =
    let item = (goal.at.most_of-sum-requires-clause-fits g c).After-figures in
    fits_told c.args.load.now.rack.speed (here g item) (c.args.load.now.timely c.loop-task.task-index (low g item))

-- with it the sum is that of one task more
more : (g : Over) (c : After-most_of-sum g) → let loop = c.loop-task in
    let a = c.args in
    loop.sum + c.most_of-sum.result.0 ≡ mosts (map g.T.Figured.told a.load.now.tasks.now) a.load.now.rack.speed a.x.0 (loop.task-index + 1)
more g c =
    let loop = c.loop-task in
    let item = (goal.at.After-most_of-sum g c).After-figures in
    sum_more loop.task-index _ loop.invariant (rw (most_told c.args.load.now.rack.speed c.args.x.0 (here g item)) at c.most_of-sum.ensures)

pub overflow_add-sum : goal.overflow_add-sum
overflow_add-sum g c =
    let a = c.args in
    let last = (goal.at.overflow_add-sum g c).After-most_of-sum in
    let next = low g (goal.at.After-most_of-sum g last).After-figures in
    omega (
      arith,
      mosts_room (map g.T.Figured.told a.load.now.tasks.now) a.load.now.rack.speed a.x.0 (c.loop-task.task-index + 1) (omega arith)
          (omega (arith, told_count g.T.Figured.told a.load.now.tasks.now, c.args.load.now.few)) c.args.load.now.in_range c.args.load.now.on_rack.speed
          c.requires (more g last),
    )

pub loop-task-preserved : goal.loop-task-preserved
loop-task-preserved g c = more g (goal.at.loop-task-preserved g c).After-most_of-sum
