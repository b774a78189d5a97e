-- `shape::rules::keeps_rules` meets its contract: its tests are the rules, in their order.
use mathlib.Core.Path.{◌≡◌, sym, ◌∙◌, ap, subst}
use mathlib.Core.Logic.{inl, inr}
use native.Mathlib.Omega.{arith}
use Rattle.model.specs.Graph.{G1}
use Rattle.model.specs.Records.{shape_at}
use Rattle.records.proofs.Tabled.{sized}
use Rattle.graph.specs.Words.{Upward}
use Rattle.shape.proofs.Edges.{upward}
use Rattle.shape.proofs.Choices.{rules_broken, rules_last}
use Rattle.shape.proofs.rules.keeps_rules.Goals.{After-g1}
use Rattle.shape.proofs.rules.keeps_rules.Goals as goal

-- the answer of g1 is the rule's
g1_answer : (c : After-g1) → c.g1.result ≡ G1 (shape_at c.args.task.set.now c.args.task.place)
g1_answer c =
    let t = shape_at c.args.task.set.now c.args.task.place in
    c.g1.ensures t (subst (λ r. Upward t r.b) (sym c.head-n.ensures) (upward c.args.task.tabled)) c.links_at.ensures

pub g1-requires : goal.g1-requires
g1-requires c =
    let size = ap (λ r. r.b) c.head-n.ensures in
    omega (arith, (sized c.args.task.tabled.task).high)

pub returns-then-not-g1 : goal.returns-then-not-g1
returns-then-not-g1 c =
    rules_broken (shape_at c.args.task.set.now c.args.task.place) (inl (sym (g1_answer (goal.at.returns-then-not-g1 c).After-g1) ∙ c.if-not-g1.true))

pub returns-then-not-g2 : goal.returns-then-not-g2
returns-then-not-g2 c = rules_broken (shape_at c.args.task.set.now c.args.task.place) (inr (sym c.g2.ensures ∙ c.if-not-g2.true))

pub returns : goal.returns
returns c =
    c.all_choices.ensures
    ∙ rules_last (shape_at c.args.task.set.now c.args.task.place) (sym (g1_answer (goal.at.returns c).After-g1) ∙ c.if-not-g1.false)
    (sym c.g2.ensures ∙ c.if-not-g2.false)
