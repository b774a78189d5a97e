-- The vertex that a turn of a walk over a set takes: the lowest of those left.
use Prim.Native.Nat.{ℕ, ◌<◌}
use mathlib.Core.Path.{◌≡◌}
use mathlib.Core.Bool.{true}
use native.Mathlib.Nat.{pos_of_ne-zero}
use Rattle.model.specs.Limits.{most_vertices}
use Rattle.model.specs.Range.{least}
use Rattle.vertices.specs.Members.{has}
use Rattle.vertices.proofs.Members.{lowest_in}

-- it has a digit, and is one of them
pub record Taken (left v : ℕ) : Type 0 where
  pub small : v < most_vertices
  pub member : has left v ≡ true

pub taken : {left v : ℕ} → (left ≡ 0 → ⊥) → v ≡ least 64 (has left) → (0 < left → v < most_vertices) → Taken left v
taken {left} {v} some lowest within =
    let small = within (pos_of_ne-zero some) in record { small = small; member = lowest_in left v lowest small }
