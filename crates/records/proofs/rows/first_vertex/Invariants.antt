-- `records::rows::first_vertex` meets its contract. The loop's invariant: the vertex records passed keep the table.
use Prim.Native.Nat.{ℕ, ◌<◌}
use mathlib.Core.Path.{◌≡◌}
use mathlib.Core.Bool.{true}
use Rattle.model.specs.Records.{keeps_table}
use Rattle.records.proofs.rows.first_vertex.Given as goal

abbrev pub invariant-loop-v : goal.invariant-loop-v
invariant-loop-v l = (i : ℕ) → i < l.v → keeps_table l.set l.place i ≡ true
