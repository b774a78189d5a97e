-- `vertices::union` meets its contract.
use Rattle.vertices.proofs.Members.{has_either}
use Rattle.vertices.proofs.union.Goals as goal

pub returns : goal.returns
returns c = has_either c.args.a c.args.b
