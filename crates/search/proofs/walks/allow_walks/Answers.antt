use Rattle.curve.specs.Charts.{curves}
use Rattle.curve.proofs.Charts.{curve_low}
use Rattle.stretch.proofs.Places.{again_kept}
use Rattle.search.proofs.walks.allow_walks.Goals as goal

pub loop-i-preserved : goal.loop-i-preserved
loop-i-preserved c all =
    let cs = curves c.args.charts.now in
    let loop = c.loop-i in
    let low = curve_low c.args.charts.now c.loop-i-test.true in
    let before = loop.invariant all in
    let one = before loop.i low _ in
    again_kept cs loop.kept loop.i before low (record { each = one.each; line = one.line })
