-- `table::vertex_record` meets its contract: its tests are those of the definition.
use mathlib.Core.Path.{refl}
use Rattle.model.specs.Records.{vertex_record}
use Rattle.table.proofs.vertex_record.Goals as goal

pub returns : goal.returns
unfolding vertex_record
returns c = rw c.role_and_mate.ensures refl
