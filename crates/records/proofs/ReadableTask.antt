-- A task that can be read is readable, and reading finds only such.
use Prim.Native.Nat.{ℕ}
use mathlib.Core.Path.{◌≡◌}
use mathlib.Core.List.{List}
use native.Mathlib.Omega.{arith}
use Rattle.model.specs.Records.{task_at, tasks_at, reading}
use Rattle.model.proofs.Lists.{Each, each_weaken}
use Rattle.model.proofs.Readable.{Readable}
use Rattle.model.proofs.Reading.{Kept, kept, task_readable}
use Rattle.model.proofs.Table.{all_there}
use Rattle.records.specs.Rows.{TaskAt, ReadableAt}

pub readable_at : (bytes : List ℕ) (place : ℕ) → ReadableAt bytes place → Readable (task_at bytes place)
readable_at bytes place r =
    task_readable bytes place (record { first = r.tabled.task.kept; table = r.tabled.rows; rules = r.rules })

pub read_readable : (bytes ps : List ℕ) → reading bytes ≡ tasks_at ps → Each (ReadableAt bytes) ps
read_readable bytes ps e = each_weaken (Kept bytes) (ReadableAt bytes) ps found (kept bytes ps e)
  where
    found : (place : ℕ) → Kept bytes place → ReadableAt bytes place
    found place k =
        let task : TaskAt bytes place = record { there = omega (arith, all_there bytes place k.first k.table); kept = k.first } in
        record { tabled = record { task = task; rows = k.table }; rules = k.rules }
