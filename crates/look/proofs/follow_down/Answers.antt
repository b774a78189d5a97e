-- `look::follow_down` meets its contract.
use Prim.Native.Nat.{◌≤◌}
use native.Mathlib.Omega.{arith}
use Rattle.look.proofs.Following.{cleared}
use Rattle.look.proofs.follow_down.Goals as goal

pub returns : goal.returns
returns c w rises falls =
    let a = c.args in
    let short : c.min-run.result ≤ a.line.run.0 = omega arith in
    (omega arith, cleared falls a.bound a.p c.min-run.result short c.if-bound-top.false c.if-bound-low.false rises c.requires.bound_nonzero.0 c.low_tick.ensures (omega arith))
