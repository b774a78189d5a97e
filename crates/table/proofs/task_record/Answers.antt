-- `table::task_record` meets its contract: its tests are those of the definition.
use mathlib.Core.Path.{refl}
use Rattle.model.specs.Records.{task_record}
use Rattle.table.proofs.task_record.Goals as goal

pub returns : goal.returns
unfolding task_record
returns c = refl
