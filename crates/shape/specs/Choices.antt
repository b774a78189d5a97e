-- The choices of a graph: where they start and end and their arms as words, and the rules at all of them.
use Rattle.std.specs.Prelude.{ℕ, ◌≡◌, Bool, not, ◌&&◌, ◌||◌, List, [], get_or}
use Rattle.model.specs.Range.{every}
use Rattle.model.specs.Graph.{Shape, size, starts, ends, in_arm, G3, G4, G5, G6}
use Rattle.vertices.specs.Members.{has}

-- the word holds the vertices that start a choice
abbrev pub AreStarts : Shape → ℕ → Type 0
AreStarts t w = (v : ℕ) → has w v ≡ starts t v

-- the word holds the vertices that end one
abbrev pub AreEnds : Shape → ℕ → Type 0
AreEnds t w = (v : ℕ) → has w v ≡ ends t v

-- "for every vertex number, the two arm sets as a pair of 64-bit words": both empty where no choice starts
abbrev pub ArmTable : Shape → List (List ℕ) → Type 0
ArmTable t table = (s i v : ℕ) → has (get_or (get_or table s []) i 0) v ≡ (starts t s && in_arm t s i v)

-- G3 at every choice
unfoldable pub splits : Shape → Bool
splits t = every (size t) (λ s. not (starts t s) || G3 t s)

-- G3 to G6 at every choice
unfoldable pub choices_keep : Shape → Bool
choices_keep t = every (size t) (λ s. not (starts t s) || G3 t s && G4 t s && G5 t s && G6 t s)
