-- `graph::rules::g6` meets its contract: two arms, so the rule asks both to be shut.
use mathlib.Core.Path.{sym, ◌∙◌, ap, ap₂}
use mathlib.Core.Bool.{◌&&◌}
use Rattle.model.specs.Graph.{shut}
use Rattle.model.proofs.Ranges.{and_first, and_second}
use Rattle.graph.proofs.Shut.{shut_two}
use Rattle.graph.proofs.rules.g6.Goals.{After-shut}
use Rattle.graph.proofs.rules.g6.Goals as goal

pub returns-then-shut : goal.returns-then-shut
returns-then-shut c = λ t n upward edges two are.
    and_second c.shut.result c.shut-then-shut.result c.if-shut.true
    ∙ ap₂ ◌&&◌ (c.shut.ensures t n 0 upward edges are.lower) (c.shut-then-shut.ensures t n 1 upward edges are.higher)
    ∙ sym (shut_two t c.args.s two)

pub returns-else-shut : goal.returns-else-shut
returns-else-shut c = λ t n upward edges two are.
    let s = c.args.s in
    and_first c.shut.result (shut t s 1) c.if-shut.false
    ∙ ap (λ b. b && shut t s 1) (c.shut.ensures t n 0 upward edges are.lower) ∙ sym (shut_two t s two)
