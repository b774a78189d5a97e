-- `parts::closing_verdict` meets its contract: each of its ways out is a case of the definition.
use mathlib.Core.Path.{sym, ◌∙◌}
use borrow.Author.Tests.{eq-eqb, ne_eqb}
use Rattle.parts.specs.Upload.{wrong_call, exceeding, whole, again, first}
use Rattle.parts.proofs.closing_verdict.Goals as goal

pub returns-then-upload-ne0 : goal.returns-then-upload-ne0
returns-then-upload-ne0 c = rw c.refuse.ensures (again (ne_eqb _ _ c.if-upload-ne0.true))

pub returns-then-judge_takes : goal.returns-then-judge_takes
returns-then-judge_takes c =
    rw c.refuse-then-judge_takes.ensures
    (first _ (eq-eqb _ _ c.if-upload-ne0.false)
    (exceeding (sym c.judge_takes.ensures ∙ c.if-judge_takes.true)
    (sym c.room_exceeded.ensures ∙ c.if-room_exceeded.true)))

pub returns-then-room_exceeded : goal.returns-then-room_exceeded
returns-then-room_exceeded c =
    rw c.refuse-then-room_exceeded.ensures
    (first _ (eq-eqb _ _ c.if-upload-ne0.false)
    (wrong_call (sym c.judge_takes.ensures ∙ c.if-judge_takes.false)))

pub returns : goal.returns
returns c =
    first _ (eq-eqb _ _ c.if-upload-ne0.false)
    (whole _ (sym c.room_exceeded.ensures ∙ c.if-room_exceeded.false) c.judge.ensures)
