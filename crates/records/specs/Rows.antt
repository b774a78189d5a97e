-- A task whose records are all there and keep the table.
use Rattle.std.specs.Prelude.{ℕ, ◌+◌, ◌*◌, ◌≤◌, ◌<◌, ◌≡◌, true, false, cond, List}
use Rattle.model.specs.Limits.{most_vertices}
use Rattle.model.specs.Graph.{keeps_rules}
use Rattle.model.specs.Records.{Fields, records, fields_at, task_record, edge_record, keeps_table, behind, shape_at}

-- Where an edge stands in the order of (from, to) among vertices below 64; 0 for a record that is no edge of a task with n vertices.
unfoldable pub edge_key : ℕ → Fields → ℕ
edge_key n r = cond (edge_record n r) (most_vertices * r.c + r.d) 0

-- A task record is there and keeps the table.
pub record TaskAt (bytes : List ℕ) (place : ℕ) : Type 0 where
  pub there : place < records bytes
  pub kept : task_record (fields_at bytes place) ≡ true

-- Of the records before `end` behind a task record, j is the first that is missing or breaks the table; `end` where none does.
pub record FirstBroken (bytes : List ℕ) (place end j : ℕ) : Type 0 where
  pub within : j ≤ end
  pub before : (i : ℕ) → i < j → keeps_table bytes place i ≡ true
  pub broken : j < end → keeps_table bytes place j ≡ false

-- "A task is a task record, then all its vertex records, then all its edge records": each is there and keeps the table.
pub record Tabled (bytes : List ℕ) (place : ℕ) : Type 0 where
  pub task : TaskAt bytes place
  pub rows : (j : ℕ) → j < behind bytes place → keeps_table bytes place j ≡ true

-- A task that can be read: its records keep the table, and its graph the rules.
pub record ReadableAt (bytes : List ℕ) (place : ℕ) : Type 0 where
  pub tabled : Tabled bytes place
  pub rules : keeps_rules (shape_at bytes place) ≡ true
