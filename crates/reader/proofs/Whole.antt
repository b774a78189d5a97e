-- The task at a place, read by its cases: its own record, the records behind it, its graph.
use Prim.Native.Nat.{ℕ, ◌+◌, ◌≤◌, ◌<◌}
use mathlib.Core.Path.{◌≡◌, ◌∙◌}
use mathlib.Core.Bool.{true, false, cond, not}
use mathlib.Core.List.{List, [], ◌∷◌}
use borrow.Author.Tests.{lt-ltb, le-ltb}
use Rattle.model.specs.Range.{least}
use Rattle.model.specs.Graph.{keeps_rules}
use Rattle.model.specs.Records.{fields_at, task_record, keeps_table, behind, shape_at, tasks_at, refused, read_task}
use Rattle.model.proofs.Reading.{none_breaks}
use Rattle.records.specs.Rows.{TaskAt, Tabled}
use Rattle.reader.specs.Answer.{Heard}
use Rattle.std.specs.Prelude.{Ok}

-- the first record behind the task record that breaks the table, their number where there is none
abbrev broken : List ℕ → ℕ → ℕ
broken bytes place = least (behind bytes place) (λ j. not (keeps_table bytes place j))

pub task_breaks : (bytes : List ℕ) (place : ℕ) → task_record (fields_at bytes place) ≡ false → read_task bytes place ≡ refused 3 place
unfolding read_task
task_breaks bytes place f = rw f

module _ {bytes : List ℕ} {place : ℕ} (t : TaskAt bytes place) {j : ℕ} (first : j ≡ broken bytes place) where
  pub row_breaks : j < behind bytes place → read_task bytes place ≡ refused 3 (place + 1 + j)
  unfolding read_task
  row_breaks l = rw (t.kept, ← first, lt-ltb j (behind bytes place) l)

  module _ (past : behind bytes place ≤ j) where
    pub tabled : Tabled bytes place
    tabled = record { task = t; rows = none_breaks bytes place (rw first at past) }

    judged : read_task bytes place ≡ cond (keeps_rules (shape_at bytes place)) (tasks_at (place ∷ [])) (refused 4 place)
    unfolding read_task
    judged = rw (t.kept, ← first, le-ltb j (behind bytes place) past)

    pub rules_break : keeps_rules (shape_at bytes place) ≡ false → read_task bytes place ≡ refused 4 place
    rules_break k = judged ∙ rw k

    pub whole :
        keeps_rules (shape_at bytes place) ≡ true → (n : ℕ) → n ≡ behind bytes place
        → Heard bytes place (Ok (place + 1 + n))
    whole k n e = (judged ∙ rw k, rw e)
