-- `shape::roles::mate_at` meets its contract: the record of a vertex has its mate.
use mathlib.Core.Path.{sym, ◌∙◌, ap}
use Rattle.records.proofs.Tabled.{mate_at_lem}
use Rattle.shape.proofs.roles.mate_at.Goals as goal

pub returns : goal.returns
returns c =
    ap (λ r. r.b) c.vertex.ensures ∙ sym (mate_at_lem c.args.task.set.now c.args.task.place c.args.v c.requires)
