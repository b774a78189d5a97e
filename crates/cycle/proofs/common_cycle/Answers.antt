use Prim.Native.Nat.{◌+◌, ◌<◌}
use mathlib.Core.Path.{◌≡◌, ◌∙◌, ap}
use native.Mathlib.Omega.{arith}
use lib.ListN.{get_or, drop}
use Rattle.model.specs.Curve.{cycle_from}
use Rattle.model.proofs.Divisor.{multiple_positive}
use Rattle.cycle.specs.Limit.{within}
use Rattle.cycle.proofs.Periods.{turn, over, done}
use Rattle.cycle.proofs.common_cycle.Goals.{After-multiple-h}
use Rattle.cycle.proofs.common_cycle.Goals as goal

-- what holds of the multiple, within the limit or not
next :
    (c : After-multiple-h)
    → let periods = c.args.periods.now in
    (0 < c.multiple-h.result)
    × (cycle_from c.multiple-h.result (drop (c.loop-period.period-index + 1) periods) ≡ cycle_from 1 periods)
next c =
    let at = c.loop-period in
    let i = at.period-index in
    let periods = c.args.periods.now in
    let lt = c.loop-period-test.true in (
      rw c.multiple-h.ensures (multiple_positive at.h (get_or periods i 0) at.invariant.0 (c.requires i lt).0),
      ap (λ h. cycle_from h (drop (i + 1) periods)) c.multiple-h.ensures ∙ turn at.h periods i lt ∙ at.invariant.2,
    )

pub returns-then-h-gt-MOST_CYCLE : goal.returns-then-h-gt-MOST_CYCLE
returns-then-h-gt-MOST_CYCLE c =
    let more = next (goal.at.returns-then-h-gt-MOST_CYCLE c).After-multiple-h in
    over c.multiple-h.result c.args.periods.now (c.loop-period.period-index + 1) more.0 (λ k l. (c.requires k l).0) (omega arith)
    ∙ ap within more.1

pub loop-period-preserved : goal.loop-period-preserved
loop-period-preserved c =
    let more = next (goal.at.loop-period-preserved c).After-multiple-h in (more.0, omega arith, more.1)

pub returns : goal.returns
returns c =
    let at = c.loop-period in
    done at.h c.args.periods.now at.period-index c.loop-period-test.false at.invariant.1
    ∙ ap within at.invariant.2
