-- `speeds::largest_ratio` meets its contract.
use Prim.Native.Nat.{◌<◌}
use mathlib.Core.Path.{◌≡◌}
use mathlib.Core.List.{map}
use native.Mathlib.Omega.{arith}
use lib.ListN.{length, get_or}
use Rattle.curve.specs.Charts.{no_curve}
use Rattle.curve.specs.Figured.{Tells}
use Rattle.curve.proofs.Telling.{told_count, told_low, tells_at}
use Rattle.speeds.proofs.Covered.{crossed_room, largest_moves, largest_stays}
use Rattle.speeds.proofs.largest_ratio.Goals.{After-figures-figures, then-largest-deadline, else-largest-deadline}
use Rattle.speeds.proofs.largest_ratio.Given.{Over}
use Rattle.speeds.proofs.largest_ratio.Goals as goal

-- the figures in hand are those of the curve at this place
here : (g : Over) (c : After-figures-figures g) → Tells c.figures-figures.result (get_or (map g.T.Figured.told c.args.tasks.now) c.loop-task.task-index no_curve)
here g c = tells_at g.T.Figured.told c.args.tasks.now c.loop-task-test.true c.task-item.is c.figures-figures.ensures

low : (g : Over) (c : After-figures-figures g) → c.loop-task.task-index < length (map g.T.Figured.told c.args.tasks.now)
low g c = told_low g.T.Figured.told c.args.tasks.now c.loop-task-test.true

pub overflow_mul-largest-in-loop-task : goal.overflow_mul-largest-in-loop-task
overflow_mul-largest-in-loop-task g c =
    let item = (goal.at.overflow_mul-largest-in-loop-task g c).After-figures-figures in
    omega (arith, crossed_room _ _ c.loop-task.invariant c.requires.2 (low g item) (here g item))

pub overflow_mul-length : goal.overflow_mul-length
overflow_mul-length g c =
    let item = (goal.at.overflow_mul-length g c).After-figures-figures in
    omega (arith, crossed_room _ _ c.loop-task.invariant c.requires.2 (low g item) (here g item))

pub loop-task-preserved : goal.loop-task-preserved
loop-task-preserved g c =
    let item = (goal.at.loop-task-preserved g c).After-figures-figures in
    let old = c.loop-task.invariant in
    elim c.if-largest-deadline.branch [
      | then-largest-deadline w ↦ rw w.largest-is (largest_moves _ _ old c.requires.2 (low g item) (here g item) w.if-largest-deadline.true)
      | else-largest-deadline w ↦ rw w.largest-is (largest_stays _ _ old c.requires.2 (low g item) (here g item) w.if-largest-deadline.false)
    ]

pub returns : goal.returns
returns g c =
    let tasks = c.args.tasks.now in
    let last = c.loop-task in
    let all : last.task-index ≡ length (map g.T.Figured.told tasks) = omega (arith, told_count g.T.Figured.told tasks) in
    record { covers = (rw all at last.invariant).covers; bounded = last.invariant.limits.0 }
