-- `table::role_and_mate` meets its contract: its tests are those of the definition.
use mathlib.Core.Path.{refl}
use Rattle.model.specs.Records.{role_and_mate}
use Rattle.table.proofs.role_and_mate.Goals as goal

pub returns : goal.returns
unfolding role_and_mate
returns c = refl
