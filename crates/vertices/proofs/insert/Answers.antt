-- `vertices::insert` meets its contract.
use Rattle.vertices.proofs.Members.{has_insert}
use Rattle.vertices.proofs.insert.Goals as goal

pub returns : goal.returns
returns c = λ u. has_insert c.args.w c.args.v u c.requires
