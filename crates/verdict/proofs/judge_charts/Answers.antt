-- `verdict::judge_charts` meets its contract: one way through it for a dense task, one for no overrun up to a tick that is enough, and
-- one for the first overrun.
use mathlib.Core.Path.{◌≡◌, sym, ◌∙◌}
use native.Mathlib.Nat.{le_trans}
use native.Mathlib.Omega.{arith}
use lib.ListN.{length}
use Rattle.model.specs.Range.{least}
use Rattle.curve.specs.Charts.{curves}
use Rattle.curve.proofs.Charts.{curves_count, charts_range, charts_fill}
use Rattle.demand.specs.Rows.{Timely}
use Rattle.speeds.specs.Calls.{dense_speed}
use Rattle.units.specs.Rack.{RackInRange}
use Rattle.verdict.proofs.OneCycle.{late, rack_at, cycle_ticks, cycle_some, right_dense, timely, used_timely, rack_kept, right_overrun, right_accepted}
use Rattle.verdict.proofs.judge_charts.Goals.{After-first_dense-dense, After-speed_used-speed, Else-dense-charts}
use Rattle.verdict.proofs.judge_charts.Goals as goal

-- the first dense task is so at the speed of the call's own test
first :
    (c : After-first_dense-dense)
    → let a = c.args in
    let cs = curves a.charts.now in
    c.first_dense-dense.result ≡ least (length cs) (late cs (dense_speed a.call.speed))
first c =
    let charts = c.args.charts.now in
    c.first_dense-dense.ensures ∙ (λ i. least (sym (curves_count charts) i) (late (curves charts) (c.dense_speed.ensures i)))

pub returns-then-dense-charts : goal.returns-then-dense-charts
returns-then-dense-charts c =
    let at = (goal.at.returns-then-dense-charts c).After-first_dense-dense in
    let a = c.args in (
      rw c.requires.h_value.0 at c.requires.h_value.1,
      right_dense a.call _ c.requires.called (first at) (omega (arith, curves_count a.charts.now)),
    )

-- past the test every task fits
all_timely : (c : Else-dense-charts) → let a = c.args in Timely (curves a.charts.now) (dense_speed a.call.speed)
all_timely c =
    let charts = c.args.charts.now in
    timely _ _ (first (goal.at.Else-dense-charts c).After-first_dense-dense) (omega (arith, curves_count charts))

pub speed_used-speed-requires-clause-dated : goal.speed_used-speed-requires-clause-dated
speed_used-speed-requires-clause-dated c =
    let charts = c.args.charts.now in (
      (
        omega (arith, c.requires.few, curves_count charts),
        λ i low.
            let range = charts_range charts i low in
            (omega (arith, range.constrained, range.period), range.length, range.some),
      ),
      all_timely (goal.at.speed_used-speed-requires-clause-dated c).Else-dense-charts,
    )

-- the rack at the speed used, and every task fits there
judged_on :
    (c : After-speed_used-speed) → let a = c.args in let speed = c.speed_used-speed.result in
    RackInRange (rack_at a.call speed) × Timely (curves a.charts.now) speed
judged_on c =
    let on = c.speed_used-speed.ensures in (
      rack_kept _ _ c.requires.called on,
      used_timely _ _ c.requires.called on (all_timely (goal.at.After-speed_used-speed c).Else-dense-charts),
    )

pub invariant_of-load : goal.invariant_of-load
invariant_of-load c =
    let on = judged_on (goal.at.invariant_of-load c).After-speed_used-speed in
    record { few = c.requires.few; in_range = charts_range c.args.charts.now; on_rack = on.0; timely = on.1 }

pub last_tick-last-requires : goal.last_tick-last-requires
last_tick-last-requires c = (cycle_some c.args.charts.now c.requires.h_value.0, c.requires.h_value.1)

pub first_overrun-found-requires : goal.first_overrun-found-requires
first_overrun-found-requires c =
    let on = judged_on (goal.at.first_overrun-found-requires c).After-speed_used-speed in
    le_trans c.last_tick-last.ensures.within (cycle_ticks _ _ on.0.speed c.requires.h_value.1)

pub returns-in-None : goal.returns-in-None
returns-in-None c = (
  rw c.requires.h_value.0 at c.requires.h_value.1,
  right_accepted _ _ c.requires.called c.speed_used-speed.ensures (all_timely (goal.at.returns-in-None c).Else-dense-charts)
      c.last_tick-last.result.0 c.first_overrun-found.ensures (c.last_tick-last.ensures.enough (curves c.args.charts.now) (charts_fill c.args.charts.now) c.requires.h_value.0) c.in-None.is,
)

pub returns-in-Some : goal.returns-in-Some
returns-in-Some c = (
  rw c.requires.h_value.0 at c.requires.h_value.1,
  right_overrun _ _ c.requires.called c.speed_used-speed.ensures (all_timely (goal.at.returns-in-Some c).Else-dense-charts)
      c.last_tick-last.result.0 c.first_overrun-found.ensures c.in-Some.is,
)
