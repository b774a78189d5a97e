use mathlib.Core.Path.{◌≡◌, sym, ◌∙◌, ap}
use mathlib.Core.Bool.{not}
use lib.ListN.{length}
use native.Mathlib.Omega.{arith}
use borrow.Author.Count.{below_more}
use Rattle.model.proofs.Ranges.{least_is}
use Rattle.units.specs.Rack.{fits_at}
use Rattle.curve.proofs.Charts.{curve_at}
use Rattle.demand.proofs.first_dense.Invariants.{dense}
use Rattle.demand.proofs.first_dense.Goals.{After-fits_deadline}
use Rattle.demand.proofs.first_dense.Goals as goal

-- what is heard of task i
heard : (c : After-fits_deadline) → dense c.args.charts.now c.args.speed c.loop-i.i ≡ not c.fits_deadline.result
heard c =
    ap (λ curve. not (fits_at c.args.speed curve)) (curve_at c.args.charts.now c.loop-i.i c.index-charts-i.result c.loop-i-test.true c.index-charts-i.is)
    ∙ ap not (sym c.fits_deadline.ensures)

pub returns-then-not-fits_deadline : goal.returns-then-not-fits_deadline
returns-then-not-fits_deadline c =
    let loop = c.loop-i in
    sym (least_is (length c.args.charts.now) (dense c.args.charts.now c.args.speed) loop.i (omega arith) loop.invariant
    (λ l. heard (goal.at.returns-then-not-fits_deadline c).After-fits_deadline ∙ ap not c.if-not-fits_deadline.true))

pub loop-i-preserved : goal.loop-i-preserved
loop-i-preserved c =
    below_more _ _ c.loop-i.invariant
    (heard (goal.at.loop-i-preserved c).After-fits_deadline ∙ ap not c.if-not-fits_deadline.false)

pub returns : goal.returns
returns c =
    let args = c.args in
    let loop = c.loop-i in
    sym (least_is (length args.charts.now) (dense args.charts.now args.speed) (length args.charts.now) (omega arith)
    (λ j l. loop.invariant j (omega arith)) (λ l. absurd (omega arith)))
