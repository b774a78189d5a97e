-- `reader::task::read_task` meets its contract: each return is a case of reading a task, in the order of the records.
use Prim.Native.Nat.{◌+◌, ◌≤◌}
use mathlib.Core.Path.{◌≡◌, sym, ◌∙◌, ap}
use native.Mathlib.Omega.{arith}
use Rattle.model.specs.Records.{fields_at, task_record, behind}
use Rattle.records.specs.Rows.{TaskAt}
use Rattle.records.proofs.Tabled.{sized}
use Rattle.records.proofs.Judging.{behind_is}
use Rattle.reader.proofs.Whole.{task_breaks, row_breaks, tabled, rules_break, whole}
use Rattle.reader.proofs.task.read_task.Goals.{After-task_record, Else-not-task_record}
use Rattle.reader.proofs.task.read_task.Goals as goal

-- what the test of the task record says
kept : (c : After-task_record) → task_record (fields_at c.args.set.now c.args.place) ≡ c.task_record.result
kept c = sym (c.task_record.ensures ∙ ap task_record c.record_at-task.ensures)

-- past it: the task, and how many records are to stand behind it
record Passed (c : Else-not-task_record) : Type 0 where
  task : TaskAt c.args.set.now c.args.place
  rows : c.record_at-task.result.b + c.record_at-task.result.e ≡ behind c.args.set.now c.args.place
  few : behind c.args.set.now c.args.place ≤ 320

passed : (c : Else-not-task_record) → Passed c
passed c =
    let after = (goal.at.Else-not-task_record c).After-task_record in
    let task : TaskAt c.args.set.now c.args.place = record { there = c.requires; kept = kept after ∙ c.if-not-task_record.false } in
    record { task = task; rows = behind_is c.args.set.now c.args.place c.record_at-task.ensures; few = (sized task).rows }

pub returns-then-not-task_record : goal.returns-then-not-task_record
returns-then-not-task_record c = task_breaks _ _ (kept (goal.at.returns-then-not-task_record c).After-task_record ∙ c.if-not-task_record.true)

pub overflow_add-behind : goal.overflow_add-behind
overflow_add-behind c = let p = passed (goal.at.overflow_add-behind c).Else-not-task_record in omega arith

pub overflow_add-result-then-broken-behind : goal.overflow_add-result-then-broken-behind
overflow_add-result-then-broken-behind c =
    let p = passed (goal.at.overflow_add-result-then-broken-behind c).Else-not-task_record in omega arith

pub returns-then-broken-behind : goal.returns-then-broken-behind
returns-then-broken-behind c =
    let p = passed (goal.at.returns-then-broken-behind c).Else-not-task_record in
    row_breaks p.task c.first_broken-broken.ensures (omega arith)

pub invariant_of-tabled : goal.invariant_of-tabled
invariant_of-tabled c =
    let p = passed (goal.at.invariant_of-tabled c).Else-not-task_record in
    record { tabled = tabled p.task c.first_broken-broken.ensures (omega arith) }

pub returns-then-not-keeps_rules : goal.returns-then-not-keeps_rules
returns-then-not-keeps_rules c =
    let p = passed (goal.at.returns-then-not-keeps_rules c).Else-not-task_record in
    rules_break p.task c.first_broken-broken.ensures (omega arith) (sym c.keeps_rules.ensures ∙ c.if-not-keeps_rules.true)

pub overflow_add-result-3 : goal.overflow_add-result-3
overflow_add-result-3 c = let p = passed (goal.at.overflow_add-result-3 c).Else-not-task_record in omega arith

pub returns : goal.returns
returns c =
    let p = passed (goal.at.returns c).Else-not-task_record in
    whole p.task c.first_broken-broken.ensures (omega arith) (sym c.keeps_rules.ensures ∙ c.if-not-keeps_rules.false) _ p.rows
