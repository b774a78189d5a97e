-- `vertices::meets` meets its contract: what the sets have in common is not empty.
use Rattle.vertices.proofs.Members.{meets_common}
use Rattle.vertices.proofs.meets.Goals as goal

pub returns : goal.returns
returns c = meets_common c.args.a c.args.b c.common.result c.common.type_inv c.common.ensures
