-- `reader::places::Places::push` keeps the places in front of zeros.
use mathlib.Core.Path.{ap}
use native.Mathlib.Omega.{arith}
use lib.ListN.{length}
use lib.Seq.{length-take-le}
use Rattle.reader.proofs.Zeros.{one_more}
use Rattle.reader.proofs.places.Places.push.Goals as goal

pub invariant_of-self : goal.invariant_of-self
invariant_of-self c =
    let inside = c.self.inside in
    let few = c.self.invariant.few in
    let held = length-take-le inside.count inside.places (omega arith) in
    let old = ap length c.self.view_is in
    one_more _ _ _ c.self.invariant (omega arith)
