-- `reply::reply` meets its contract: one way for a set that is too long, one for too few bytes, one for a set that is judged.
use Rattle.std.proofs.Common.{sym, subst}
use Rattle.entries.specs.Given.{judge_gives}
use Rattle.reply.specs.Printed.{Printed, long_set, no_call}
use Rattle.reply.proofs.Replies.{judged_line}
use Rattle.reply.proofs.reply.Goals as goal

pub returns-then-input-gt-MOST_INPUT : goal.returns-then-input-gt-MOST_INPUT
returns-then-input-gt-MOST_INPUT c = subst (Printed _) (sym c.too_long.ensures) (long_set c.if-input-gt-MOST_INPUT.true)

pub returns-then-input-lt-CALL : goal.returns-then-input-lt-CALL
returns-then-input-lt-CALL c = subst (Printed _) (sym c.answer_line.ensures) (no_call c.if-input-lt-CALL.true)

pub returns : goal.returns
unfolding judge_gives
returns c =
    subst (Printed _) (sym c.verdict_line.ensures)
    (judged_line c.if-input-lt-CALL.false c.if-input-gt-MOST_INPUT.false c.from-m.ensures c.from-p.ensures c.from-q.ensures
    c.named_speed-speed.ensures c.judge.ensures)
