-- How far the reading of a set has come: a turn adds one task, and the first refusal is that of the whole set.
use Prim.Native.Nat.{ℕ, zero, suc, ◌+◌, ◌-◌, ◌%◌, ◌≤◌, ◌<◌}
use mathlib.Core.Path.{◌≡◌, refl, sym, ◌∙◌, ap}
use mathlib.Core.Bool.{Bool, true, false, cond}
use mathlib.Core.List.{List, [], ◌∷◌, ◌++◌, append_assoc, append-nil}
use native.Mathlib.Omega.{arith}
use lib.Dec.{eqb}
use lib.ListN.{length, length-append}
use borrow.Author.Tests.{lt-ltb, le-ltb, eq-eqb, ne_eqb}
use Rattle.std.specs.Prelude.{Ok}
use Rattle.model.specs.Limits.{most_tasks}
use Rattle.model.specs.Records.{records, fields_at, behind, Reading, tasks_at, refused, then_read, read_task, read_from, reading}
use Rattle.reader.specs.Answer.{Heard}

-- "records from the left": nothing before, one task between, and the refusals where a 33rd task is due
then_first : (r : Reading) → r ≡ then_read (tasks_at []) r
then_first (tasks_at ps) = refl
then_first (refused number place) = refl

then_more :
    (ps : List ℕ) (p : ℕ) (rest : Reading)
    → then_read (tasks_at ps) (then_read (tasks_at (p ∷ [])) rest) ≡ then_read (tasks_at (ps ++ p ∷ [])) rest
then_more ps p (tasks_at qs) = ap tasks_at (sym (append_assoc ps (p ∷ []) qs))
then_more ps p (refused number place) = refl

then_either :
    (ps : List ℕ) (b : Bool) (place : ℕ)
    → then_read (tasks_at ps) (cond b (refused 5 place) (refused 3 place)) ≡ cond b (refused 5 place) (refused 3 place)
then_either ps true place = refl
then_either ps false place = refl

-- the tasks from a place on: none past the last record, else the one there and those after it
from_end : (bytes : List ℕ) (left place : ℕ) → records bytes ≤ place → read_from bytes left place ≡ tasks_at []
from_end bytes zero place l = rw (le-ltb place (records bytes) l)
from_end bytes (suc left) place l = rw (le-ltb place (records bytes) l)

from_task :
    (bytes : List ℕ) (left place : ℕ) → place < records bytes
    → read_from bytes (suc left) place ≡ then_read (read_task bytes place) (read_from bytes left (place + 1 + behind bytes place))
from_task bytes left place there = rw (lt-ltb place (records bytes) there)

-- "2: byte length not a multiple of 16"
pub ragged : (bytes : List ℕ) → (length bytes % 16 ≡ 0 → ⊥) → reading bytes ≡ refused 2 0
unfolding reading
ragged bytes h = rw (ne_eqb (length bytes % 16) 0 h)

-- Where the code stands: `found` are the places of the tasks found, and what is read from `place` on, where as many more are allowed as are
-- left of 32, is yet to come behind them.
pub record SoFar (bytes found : List ℕ) (place : ℕ) : Type 0 where
  pub few : length found ≤ most_tasks
  pub rest : reading bytes ≡ then_read (tasks_at found) (read_from bytes (most_tasks - length found) place)

-- nothing is found yet
pub none : (bytes : List ℕ) → length bytes % 16 ≡ 0 → SoFar bytes [] 0
unfolding reading
none bytes h =
    record {
      few = omega arith;
      rest = rw (eq-eqb (length bytes % 16) 0 h) (then_first (read_from bytes most_tasks 0));
    }

module _ {bytes found : List ℕ} {place : ℕ} (s : SoFar bytes found place) where
  -- past the last record all is found
  pub all : records bytes ≤ place → tasks_at found ≡ reading bytes
  all l = sym (s.rest ∙ rw (from_end bytes (most_tasks - length found) place l) (ap tasks_at (append-nil found)))

  module _ (there : place < records bytes) where
    -- "Where a 33rd task is due and the record has kind 1, 5 comes before 3."
    pub over :
        length found ≡ most_tasks → reading bytes ≡ cond (eqb (fields_at bytes place).kind 1) (refused 5 place) (refused 3 place)
    over full =
        let e : most_tasks - length found ≡ 0 = omega arith in
        s.rest ∙ rw (e, lt-ltb place (records bytes) there) (then_either found (eqb (fields_at bytes place).kind 1) place)

    module _ (more : length found < most_tasks) where
      abbrev left : ℕ
      left = most_tasks - (length found + 1)

      -- one more is allowed, and it is read first
      one_left : most_tasks - length found ≡ suc left
      one_left = omega arith

      abbrev later : Reading
      later = read_from bytes left (place + 1 + behind bytes place)

      here : reading bytes ≡ then_read (tasks_at found) (then_read (read_task bytes place) later)
      here =
          s.rest
          ∙ ap (λ n. then_read (tasks_at found) (read_from bytes n place)) one_left
          ∙ ap (then_read (tasks_at found)) (from_task bytes left place there)

      -- the task here is refused
      pub breaks : {number at : ℕ} → read_task bytes place ≡ refused number at → reading bytes ≡ refused number at
      breaks e = here ∙ ap (λ r. then_read (tasks_at found) (then_read r later)) e

      -- the task here is whole
      pub turn : {next : ℕ} → Heard bytes place (Ok next) → SoFar bytes (found ++ place ∷ []) next
      turn {next} h =
          let grown = found ++ place ∷ [] in
          let longer : length grown ≡ length found + 1 = length-append found (place ∷ []) in
          record {
            few = omega arith;
            rest =
                here
                ∙ ap (λ r. then_read (tasks_at found) (then_read r later)) h.0
                ∙ then_more found place later
                ∙ ap (λ p. then_read (tasks_at grown) (read_from bytes left p)) (sym h.1)
                ∙ ap (λ n. then_read (tasks_at grown) (read_from bytes (most_tasks - n) next)) (sym longer);
          }
