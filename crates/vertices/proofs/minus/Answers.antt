-- `vertices::minus` meets its contract.
use Rattle.vertices.proofs.Members.{has_minus}
use Rattle.vertices.proofs.minus.Goals as goal

pub returns : goal.returns
returns c = λ u. has_minus c.args.a c.args.b u c.ranges.a.fits c.ranges.b.fits
