-- `vertices::common` meets its contract.
use Rattle.vertices.proofs.Members.{has_both}
use Rattle.vertices.proofs.common.Goals as goal

pub returns : goal.returns
returns c = has_both c.args.a c.args.b
