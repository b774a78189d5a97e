-- `vertices::size` meets its contract.
use native.Mathlib.Omega.{arith}
use lib.Count.{ones-le}
use Rattle.vertices.proofs.Members.{ones_count}
use Rattle.vertices.proofs.size.Goals as goal

pub overflow_cast-result : goal.overflow_cast-result
overflow_cast-result c = omega (arith, ones-le 64 c.args.w c.ranges.w.fits)

pub returns : goal.returns
returns c = ones_count 64 c.args.w c.ranges.w.fits
