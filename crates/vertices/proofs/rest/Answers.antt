-- `vertices::rest` meets its contract.
use native.Mathlib.Omega.{arith}
use lib.Bits.{and_le_r}
use Prim.Native.Nat.{◌-◌}
use Rattle.vertices.proofs.Members.{has_rest}
use Rattle.vertices.proofs.rest.Goals as goal

pub returns : goal.returns
returns c = record { others = λ u. has_rest c.args.w u c.ranges.w.fits; less = omega (arith, c.requires, and_le_r c.args.w (c.args.w - 1)) }
