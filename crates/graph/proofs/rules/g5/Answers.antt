-- `graph::rules::g5` meets its contract: two arms, none bare, so the rule asks both to close.
use mathlib.Core.Path.{sym, ◌∙◌, ap, ap₂}
use mathlib.Core.Bool.{◌&&◌}
use Rattle.model.specs.Graph.{closes}
use Rattle.model.proofs.Ranges.{and_first, and_second}
use Rattle.graph.proofs.Closing.{end_in, closes_two}
use Rattle.graph.proofs.rules.g5.Goals.{After-closes}
use Rattle.graph.proofs.rules.g5.Goals as goal

pub returns-then-closes : goal.returns-then-closes
returns-then-closes c = λ t n s upward links end rule are.
    let before = end_in t s c.args.links.now.into c.args.end links.into end in
    and_second c.closes.result c.closes-then-closes.result c.if-closes.true
    ∙ ap₂ ◌&&◌ (c.closes.ensures t n s 0 upward links.out are.lower before) (c.closes-then-closes.ensures t n s 1 upward links.out are.higher before)
    ∙ sym (closes_two t s rule)

pub returns-else-closes : goal.returns-else-closes
returns-else-closes c = λ t n s upward links end rule are.
    let before = end_in t s c.args.links.now.into c.args.end links.into end in
    and_first c.closes.result (closes t s 1) c.if-closes.false
    ∙ ap (λ b. b && closes t s 1) (c.closes.ensures t n s 0 upward links.out are.lower before) ∙ sym (closes_two t s rule)
