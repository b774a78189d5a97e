-- `records::rows::first_edge` meets its contract. The loop's invariant: the records passed keep the table, and `last` is the key of the last edge,
-- 0 before the first.
use Prim.Native.Nat.{ℕ, ◌<◌}
use mathlib.Core.Path.{◌≡◌}
use mathlib.Core.Bool.{true}
use Rattle.model.specs.Records.{keeps_table}
use Rattle.records.proofs.Judging.{Last}
use Rattle.records.proofs.rows.first_edge.Given as goal

abbrev pub invariant-loop-j : goal.invariant-loop-j
invariant-loop-j l =
    ((i : ℕ) → i < l.j → keeps_table l.set l.place i ≡ true) × Last l.set l.place l.n l.j l.last
