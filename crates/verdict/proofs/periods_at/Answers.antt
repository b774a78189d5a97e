use mathlib.Core.Path.{◌∙◌}
use native.Mathlib.Omega.{arith}
use lib.ListN.{length-set}
use Rattle.verdict.proofs.PeriodTable.{one_read}
use Rattle.verdict.proofs.periods_at.Goals as goal

pub loop-i-preserved : goal.loop-i-preserved
loop-i-preserved c =
    let loop = c.loop-i in
    record {
      long = length-set loop.periods loop.i c.record_at.result.d ∙ loop.invariant.long;
      read =
          one_read c.args.set.now c.args.places.now loop.i loop.periods (omega (arith, loop.invariant.long)) c.loop-i-test.true
          c.record_at.ensures loop.invariant.read;
    }
