-- `vertices::lowest` meets its contract: the zeros below a word's lowest digit are as many as the lowest member says.
use native.Mathlib.Omega.{arith}
use lib.Count.{trailing_le}
use Rattle.vertices.proofs.Members.{zeros_least, zeros_within}
use Rattle.vertices.proofs.lowest.Goals as goal

pub overflow_cast-result : goal.overflow_cast-result
overflow_cast-result c = omega (arith, trailing_le 64 c.args.w)

pub returns : goal.returns
returns c = record { found = zeros_least 64 c.args.w; within = zeros_within c.args.w c.ranges.w.fits }
