use mathlib.Core.Path.{◌≡◌, sym, ◌∙◌, ap, subst}
use native.Mathlib.Omega.{arith}
use lib.ListN.{length, take}
use Rattle.model.specs.Curve.{common_cycle}
use Rattle.model.specs.Entries.{curves_at}
use Rattle.curve.specs.Charts.{curves}
use Rattle.verdict.specs.Stands.{Stands}
use Rattle.verdict.proofs.Filled.{one_filled, all_filled}
use Rattle.verdict.proofs.judge_up_to.Goals.{After-loop-i}
use Rattle.verdict.proofs.judge_up_to.Given as given
use Rattle.verdict.proofs.judge_up_to.Goals as goal

pub loop-i-preserved : goal.loop-i-preserved
loop-i-preserved g c =
    one_filled c.args.set.now c.args.places.now c.loop-i.i c.loop-i.charts c.chart_at.new.chart (omega arith) c.loop-i-test.true
    c.chart_at.ensures c.loop-i.invariant

-- the charts in use make the curves of the places
filled :
    (g : given.Over) (c : After-loop-i g)
    → let places = c.args.places.now in
    curves (take (length places) c.loop-i.charts) ≡ curves_at c.args.set.now places
filled g c = all_filled c.args.set.now c.args.places.now c.loop-i.i c.loop-i.charts (omega arith) c.loop-i.invariant

pub judge_charts-requires-clause-h_value : goal.judge_charts-requires-clause-h_value
judge_charts-requires-clause-h_value g c =
    let cycle = c.requires.judgeable.2 in
    (cycle.0 ∙ ap common_cycle (sym (filled g (goal.at.judge_charts-requires-clause-h_value g c).After-loop-i)), cycle.1)

pub returns : goal.returns
returns g c =
    subst (λ cs. Stands c.args.call cs c.judge_charts.result) (filled g (goal.at.returns g c).After-loop-i) c.judge_charts.ensures
