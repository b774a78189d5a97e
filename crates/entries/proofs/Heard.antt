-- What the reader's answer tells of the set.
use Prim.Native.Nat.{ℕ, zero, suc, ◌≤◌, ◌<◌}
use mathlib.Core.Path.{◌≡◌, sym}
use mathlib.Core.List.{List, [], ◌∷◌}
use native.Mathlib.Omega.{arith}
use lib.ListN.{length, get_or}
use Rattle.model.specs.Limits.{most_tasks}
use Rattle.model.specs.Records.{tasks_at, reading}
use Rattle.model.proofs.Lists.{Each}
use Rattle.model.proofs.Reading.{few}
use Rattle.records.specs.Rows.{ReadableAt}
use Rattle.records.proofs.ReadableTask.{read_readable}

-- what holds of each element holds at each place of the list
each_in : (P : ℕ → Type 0) (l : List ℕ) → Each P l → (i : ℕ) → i < length l → P (get_or l i 0)
each_in P [] each i low = absurd (omega arith)
each_in P (a ∷ l) each zero low = each.0
each_in P (a ∷ l) each (suc i) low = each_in P l each.1 i (omega arith)

-- The tasks of a set that the reader does not refuse: they are at most 32, and each can be read.
module _ (bytes places : List ℕ) (heard : tasks_at places ≡ reading bytes) where
  pub heard_few : length places ≤ most_tasks
  heard_few = few bytes places (sym heard)

  pub heard_readable : (i : ℕ) → i < length places → ReadableAt bytes (get_or places i 0)
  heard_readable = each_in (ReadableAt bytes) places (read_readable bytes places (sym heard))
