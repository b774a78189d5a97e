-- A run of parts from the beginning, with one room, and what its closing is to answer.
use Rattle.std.specs.Prelude.{ℕ, List, [], ◌∷◌, ltb, length}
use Rattle.model.specs.Entries.{Answer}
use Rattle.parts.specs.Upload.{new_upload, Parted, part_gives, parted, Received}

-- "a run of byte parts": each takes what the one before it left
unfoldable pub run : Parted → List (List ℕ) → Parted
run before [] = before
run before (part ∷ parts) = run (parted before.upload before.room part) parts

-- an upload that is begun, and the room as lent
abbrev pub beginning : List ℕ → Parted
beginning room = part_gives 0 new_upload room

-- "At a closing call the number, place, x and W equal what judge gives for the joined bytes"; 11 "exactly if the joined bytes exceed
-- the room"
abbrev pub Arrived : List ℕ → List ℕ → ℕ → ℕ → ℕ → Answer → Type 0
Arrived room joined = Received (ltb (length room) (length joined)) joined
