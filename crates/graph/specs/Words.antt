-- What the words say of a graph: which edges there are, and who is in an arm.
use Rattle.std.specs.Prelude.{ℕ, ◌≤◌, ◌<◌, ◌≡◌, Bool, true, ◌&&◌, List, get_or}
use Rattle.model.specs.Limits.{most_vertices}
use Rattle.model.specs.Range.{any}
use Rattle.model.specs.Graph.{Shape, size, edge, in_arm}
use Rattle.vertices.specs.Members.{has}
use Rattle.graph.specs.declared.links.Links.{Links}

-- a graph of n vertices, no more than a task may have, whose edges lead upward among them: "An edge has from < to < n"
pub record Upward (t : Shape) (n : ℕ) : Type 0 where
  pub counted : size t ≡ n
  pub small : n ≤ most_vertices
  pub up : (u v : ℕ) → edge t u v ≡ true → u < v
  pub inside : (u v : ℕ) → edge t u v ≡ true → v < n

-- the word at v holds the vertices that have an edge to v
abbrev pub Into : Shape → List ℕ → Type 0
Into t into = (u v : ℕ) → has (get_or into v 0) u ≡ edge t u v

-- the word at u holds the vertices to which u has an edge
abbrev pub OutOf : Shape → List ℕ → Type 0
OutOf t out = (u v : ℕ) → has (get_or out u 0) v ≡ edge t u v

-- the words hold the edges of the graph, both ways
pub record LinksOf (t : Shape) (links : Links) : Type 0 where
  pub into : Into t links.into
  pub out : OutOf t links.out

-- v has an edge from a vertex that has p, where the words hold the edges out
unfoldable pub follows : List ℕ → (ℕ → Bool) → ℕ → Bool
follows out p v = any 64 (λ u. p u && has (get_or out u 0) v)

-- the word holds the vertices of arm i of the choice that starts at s
abbrev pub IsArm : Shape → ℕ → ℕ → ℕ → Type 0
IsArm t s i w = (v : ℕ) → has w v ≡ in_arm t s i v

-- the two words hold the two arms of the choice that starts at s
pub record AreArms (t : Shape) (s : ℕ) (pair : List ℕ) : Type 0 where
  pub lower : IsArm t s 0 (get_or pair 0 0)
  pub higher : IsArm t s 1 (get_or pair 1 0)
