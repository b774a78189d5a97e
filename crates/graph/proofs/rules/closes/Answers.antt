-- `graph::rules::closes` meets its contract: the members of the words are those of the rule.
use Rattle.graph.proofs.Closing.{closed, unclosed}
use Rattle.graph.proofs.rules.closes.Goals.{After-closing-last, After-size}
use Rattle.graph.proofs.rules.closes.Goals as goal

pub returns-then-size-eq1 : goal.returns-then-size-eq1
returns-then-size-eq1 c = λ t n s i upward edges is_arm ends.
    let args = c.args in
    closed t n s i args.out.now args.arm upward edges is_arm c.closing-last.result c.size.result c.closing-last.ensures
    c.size.ensures args.before c.common.result ends c.common.ensures c.if-size-eq1.true

pub returns-else-size-eq1 : goal.returns-else-size-eq1
returns-else-size-eq1 c = λ t n s i upward edges is_arm _.
    let args = c.args in
    unclosed t n s i args.out.now args.arm upward edges is_arm c.closing-last.result c.size.result
    c.closing-last.ensures c.size.ensures c.if-size-eq1.false
