-- `entries::ask::find_task` meets its contract: each task that the reader finds can be read.
use mathlib.Core.Path.{◌∙◌, ap}
use native.Mathlib.Omega.{arith}
use Rattle.model.specs.Records.{tasks_at}
use Rattle.entries.proofs.Heard.{heard_readable}
use Rattle.entries.proofs.ask.find_task.Goals as goal

pub invariant_of-result : goal.invariant_of-result
invariant_of-result c =
    record { readable = heard_readable _ _ (ap tasks_at c.list-places.ensures ∙ c.in_ok-found.ensures) c.args.task (omega arith) }
