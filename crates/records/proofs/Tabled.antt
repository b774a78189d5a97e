-- What a task record that keeps the table tells, and what all the records of a task tell, before its graph is judged.
use Prim.Native.Nat.{ℕ, ◌+◌, ◌≤◌, ◌<◌}
use mathlib.Core.Path.{◌≡◌}
use mathlib.Core.Bool.{true}
use mathlib.Core.List.{List}
use native.Mathlib.Omega.{arith}
use Rattle.model.specs.Limits.{most_vertices, most_edges}
use Rattle.model.specs.Graph.{size, role, mate, edge}
use Rattle.model.specs.Records.{records, fields_at, behind, shape_at}
use Rattle.model.proofs.Table.{task_record_lem, size_at, kept_there, edge_kept, most_kept, start_kept, end_kept, edge_up}
use Rattle.records.specs.Rows.{TaskAt, Tabled}
pub use Rattle.model.proofs.Table.{role_at, mate_at_lem}

-- the size of a task whose task record keeps the table
pub record Sized (bytes : List ℕ) (place : ℕ) : Type 0 where
  pub there : place < records bytes
  pub low : 1 ≤ (fields_at bytes place).b
  pub high : (fields_at bytes place).b ≤ most_vertices
  pub edges : (fields_at bytes place).e ≤ most_edges
  pub rows : behind bytes place ≤ 320
  pub vertices : size (shape_at bytes place) ≡ (fields_at bytes place).b

module _ {bytes : List ℕ} {place : ℕ} where
  pub sized : TaskAt bytes place → Sized bytes place
  unfolding behind
  sized t =
      let facts = task_record_lem (fields_at bytes place) t.kept in
      record {
        there = t.there;
        low = facts.0;
        high = facts.1;
        edges = facts.5;
        rows = omega arith;
        vertices = size_at bytes place;
      }

  -- each record behind the task record is there
  pub row_there : Tabled bytes place → (j : ℕ) → j < behind bytes place → place + 1 + j < records bytes
  row_there t j l = kept_there bytes place j (t.rows j l)

  -- so is that of vertex v
  pub vertex_there : Tabled bytes place → (v : ℕ) → v < (fields_at bytes place).b → place + 1 + v < records bytes
  unfolding behind
  vertex_there t v l = row_there t v (omega arith)

  -- edge record j
  pub edge_row :
      Tabled bytes place → (j : ℕ) → j < (fields_at bytes place).e
      → let r = fields_at bytes (place + 1 + (fields_at bytes place).b + j) in
      (r.c < r.d) × (r.d < (fields_at bytes place).b)
  edge_row t = edge_kept bytes place t.rows

  pub role_most : Tabled bytes place → (v : ℕ) → v < (fields_at bytes place).b → role (shape_at bytes place) v ≤ 2
  role_most t = most_kept bytes place t.rows

  pub start_mate_lem :
      Tabled bytes place → (v : ℕ) → role (shape_at bytes place) v ≡ 1
      → (v < mate (shape_at bytes place) v) × (mate (shape_at bytes place) v < (fields_at bytes place).b)
  start_mate_lem t = start_kept bytes place t.rows

  pub end_mate_lem : Tabled bytes place → (v : ℕ) → role (shape_at bytes place) v ≡ 2 → mate (shape_at bytes place) v < v
  end_mate_lem t = end_kept bytes place t.rows

  pub edge_within :
      Tabled bytes place → (u v : ℕ) → edge (shape_at bytes place) u v ≡ true → (u < v) × (v < (fields_at bytes place).b)
  edge_within t = edge_up bytes place t.rows
