-- `search::near::is_near` meets its contract: no period ends in no ticks.
use native.Mathlib.Omega.{arith}
use borrow.Author.Tests.{leb-false}
use lib.ListN.{length}
use Rattle.curve.specs.Charts.{curves}
use Rattle.search.proofs.Periods.{periods_within_lem}
use Rattle.search.proofs.near.is_near.Goals as goal

pub returns : goal.returns
returns c far =
    let a = c.args in
    omega (
      arith,
      leb-false c.periods_within.result 16 far,
      c.periods_within.ensures,
      periods_within_lem (curves a.load.now.tasks.now) a.load.now.rack.speed a.ticks.0 (length a.load.now.tasks.now) a.load.now.few,
    )
