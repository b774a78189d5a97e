-- What reading a set guarantees: each task that it finds is readable, there are few of them, and a refusal has a number from 2 to 5.
use Prim.Native.Nat.{ℕ, zero, suc, ◌+◌, ◌%◌, ◌≤◌, ◌<◌}
use mathlib.Core.Path.{◌≡◌, refl, subst}
use mathlib.Core.Bool.{Bool, true, false, cond, not}
use mathlib.Core.List.{List, [], ◌∷◌}
use mathlib.Core.Logic.{inl, inr}
use native.Mathlib.Omega.{arith}
use lib.Dec.{ltb, eqb}
use lib.ListN.{length, length-append}
use borrow.Author.Tests.{ltb-false, eqb-true, not-false}
use Rattle.model.specs.Limits.{most_tasks}
use Rattle.model.specs.Range.{least}
use Rattle.model.specs.Graph.{role, keeps_rules}
use Rattle.model.specs.Records.{fields_at, records, task_record, keeps_table, behind, shape_at, task_at, Reading, tasks_at, refused, then_read, read_task, read_from, reading}
use Rattle.model.proofs.Ranges.{decided, least_before}
use Rattle.model.proofs.Lists.{each_append, each_weaken, Each}
use Rattle.model.proofs.Arms.{Drawn}
use Rattle.model.proofs.Readable.{Readable}
use Rattle.model.proofs.Table.{task_record_lem, size_at, Rows, start_kept, end_kept, edge_up, times_short, all_there}

-- a property of both branches, each where its test comes out so
branches {ℓ} : {A : Type ℓ} (P : A → Type 0) (b : Bool) (x y : A) → (b ≡ true → P x) → (b ≡ false → P y) → P (cond b x y)
branches P true x y f g = f refl
branches P false x y f g = g refl

-- The task at a place

module _ (bytes : List ℕ) (place : ℕ) where
  -- its records keep the table and its graph the rules
  pub record Kept : Type 0 where
    pub first : task_record (fields_at bytes place) ≡ true
    pub table : Rows bytes place
    pub rules : keeps_rules (shape_at bytes place) ≡ true

  drawn : Kept → Drawn (shape_at bytes place)
  drawn k =
      let t = shape_at bytes place in
      let rows = k.table in
      let facts = task_record_lem (fields_at bytes place) k.first in
      record {
        up = λ u v h. (edge_up bytes place rows u v h).0;
        inside = λ u v h. rw (size_at bytes place) (edge_up bytes place rows u v h).1;
        start_mate = λ s h. rw (size_at bytes place) (start_kept bytes place rows s (eqb-true (role t s) 1 h));
        end_mate = λ e h. end_kept bytes place rows e (eqb-true (role t e) 2 h);
        filled = rw (size_at bytes place) facts.0;
        rules = k.rules;
      }

  pub task_readable : Kept → Readable (task_at bytes place)
  unfolding task_at
  task_readable k =
      let facts = task_record_lem (fields_at bytes place) k.first in
      record {
        drawn = drawn k;
        small = rw (size_at bytes place) facts.1;
        short = times_short bytes place k.table;
        deadline_low = facts.2;
        deadline_high = facts.3;
        period_high = facts.4;
      }

  -- the least record that breaks the table lies past the end where there is none
  pub none_breaks :
      behind bytes place ≤ least (behind bytes place) (λ j. not (keeps_table bytes place j))
      → Rows bytes place
  none_breaks past j l =
      not-false (keeps_table bytes place j)
      (least_before (behind bytes place) (λ i. not (keeps_table bytes place i)) j (omega arith))

-- Reading

-- What holds of a reading for which `left` tasks are allowed. It is proved of the readings as they compute, so that no two of
-- them need be told apart.
abbrev Sound : List ℕ → ℕ → Reading → Type 0
Sound bytes left (tasks_at ps) = Each (Kept bytes) ps × (length ps ≤ left)
Sound bytes left (refused number place) = (2 ≤ number) × (number ≤ 5)

task_sound : (bytes : List ℕ) (place : ℕ) → Sound bytes 1 (read_task bytes place)
unfolding read_task
task_sound bytes place = branches (Sound bytes 1) (task_record (fields_at bytes place)) inside (refused 3 place) tabled (λ f. omega arith)
  where
    end : ℕ
    end = behind bytes place

    bad : ℕ
    bad = least end (λ j. not (keeps_table bytes place j))

    judged : Reading
    judged = cond (keeps_rules (shape_at bytes place)) (tasks_at (place ∷ [])) (refused 4 place)

    inside : Reading
    inside = cond (ltb bad end) (refused 3 (place + 1 + bad)) judged

    ruled : task_record (fields_at bytes place) ≡ true → ltb bad end ≡ false → Sound bytes 1 judged
    ruled f t =
        branches (Sound bytes 1) (keeps_rules (shape_at bytes place)) (tasks_at (place ∷ [])) (refused 4 place)
        (λ r. ((record { first = f; table = none_breaks bytes place (ltb-false bad end t); rules = r }, tt), omega arith))
        (λ r. omega arith)

    tabled : task_record (fields_at bytes place) ≡ true → Sound bytes 1 inside
    tabled f = branches (Sound bytes 1) (ltb bad end) (refused 3 (place + 1 + bad)) judged (λ t. omega arith) (ruled f)

then_sound :
    (bytes : List ℕ) (left : ℕ) (r s : Reading) → Sound bytes 1 r → Sound bytes left s
    → Sound bytes (suc left) (then_read r s)
then_sound bytes left (refused number place) s h k = h
then_sound bytes left (tasks_at ps) (refused number place) h k = k
then_sound bytes left (tasks_at ps) (tasks_at qs) h k =
    (each_append (Kept bytes) ps qs h.0 k.0, omega (arith, length-append ps qs))

from_sound : (bytes : List ℕ) (left place : ℕ) → Sound bytes left (read_from bytes left place)
from_sound bytes zero place =
    let task = eqb (fields_at bytes place).kind 1 in
    branches (Sound bytes 0) (ltb place (records bytes)) (cond task (refused 5 place) (refused 3 place)) (tasks_at [])
    (λ more. branches (Sound bytes 0) task (refused 5 place) (refused 3 place) (λ over. omega arith) (λ other. omega arith))
    (λ done. (tt, omega arith))
from_sound bytes (suc left) place =
    let next = place + 1 + behind bytes place in
    branches (Sound bytes (suc left)) (ltb place (records bytes)) (then_read (read_task bytes place) (read_from bytes left next)) (tasks_at [])
    (λ more. then_sound bytes left (read_task bytes place) (read_from bytes left next) (task_sound bytes place) (from_sound bytes left next))
    (λ done. (tt, omega arith))

sound : (bytes : List ℕ) → Sound bytes most_tasks (reading bytes)
unfolding reading
sound bytes =
    branches (Sound bytes most_tasks) (eqb (length bytes % 16) 0) (read_from bytes most_tasks 0) (refused 2 0)
    (λ whole. from_sound bytes most_tasks 0)
    (λ ragged. omega arith)

-- What reading guarantees

-- every task keeps the table and the rules
pub kept : (bytes ps : List ℕ) → reading bytes ≡ tasks_at ps → Each (Kept bytes) ps
kept bytes ps e = (subst (Sound bytes most_tasks) e (sound bytes)).0

-- every task is readable
pub readable : (bytes ps : List ℕ) → reading bytes ≡ tasks_at ps → Each (λ place. Readable (task_at bytes place)) ps
readable bytes ps e =
    each_weaken (Kept bytes) (λ place. Readable (task_at bytes place)) ps (task_readable bytes) (kept bytes ps e)

-- every task's last record is there, and so are all before it
pub placed : (bytes ps : List ℕ) → reading bytes ≡ tasks_at ps → Each (λ place. place + behind bytes place < records bytes) ps
placed bytes ps e =
    each_weaken (Kept bytes) (λ place. place + behind bytes place < records bytes) ps
    (λ place k. all_there bytes place k.first k.table)
    (kept bytes ps e)

-- there are no more tasks than a set may have
pub few : (bytes ps : List ℕ) → reading bytes ≡ tasks_at ps → length ps ≤ most_tasks
few bytes ps e = (subst (Sound bytes most_tasks) e (sound bytes)).1

-- reading refuses only with the numbers 2 to 5
pub read_numbers : (bytes : List ℕ) (number place : ℕ) → reading bytes ≡ refused number place → (2 ≤ number) × (number ≤ 5)
read_numbers bytes number place e = subst (Sound bytes most_tasks) e (sound bytes)

-- a set that can be read has no bytes left over
pub whole_records : (bytes ps : List ℕ) → reading bytes ≡ tasks_at ps → length bytes % 16 ≡ 0
unfolding reading
whole_records bytes ps e =
    elim (decided (eqb (length bytes % 16) 0)) [
      | inl a ↦ eqb-true (length bytes % 16) 0 a
      | inr b ↦ let short = rw b at e in let z : ◌≡◌ {A = ℕ} 0 1 = cc in absurd (omega arith)
    ]
