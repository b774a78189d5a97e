-- The answers of the reader, for any bytes.
use Rattle.std.specs.Prelude.{ℕ, ◌+◌, ◌≡◌, List, [], ◌∷◌, Result, Ok, Err}
use Rattle.model.specs.Records.{Reading, tasks_at, refused, behind, read_task}
use Rattle.reader.specs.declared.refusal.Refusal.{Refusal}
use Rattle.reader.specs.declared.refusal.Refusal.TheVariants.{Length, Record, Graph, Tasks}

-- "2: byte length not a multiple of 16 | 0", "3: a record breaks the table above, or one is missing at the end | its record number", "4: a
-- graph rule is broken | the task record's number", 5: a 33rd task is due and the record has kind 1 | its record number
abbrev pub number_of : Refusal → ℕ
number_of Length = 2
number_of (Record place) = 3
number_of (Graph place) = 4
number_of (Tasks place) = 5

abbrev pub place_of : Refusal → ℕ
place_of Length = 0
place_of (Record place) = place
place_of (Graph place) = place
place_of (Tasks place) = place

-- a refusal, by its number and place
abbrev pub refusal_is : Refusal → Reading
refusal_is r = refused (number_of r) (place_of r)

-- the places of the tasks, or the refusal
abbrev pub reading_is : Result (List ℕ) Refusal → Reading
reading_is (Ok places) = tasks_at places
reading_is (Err r) = refusal_is r

-- what is found of the task at a place: it is whole, and the next one would begin there, or it is refused
abbrev pub Heard : List ℕ → ℕ → Result ℕ Refusal → Type 0
Heard bytes place (Ok next) =
    (read_task bytes place ≡ tasks_at (place ∷ [])) × (next ≡ place + 1 + behind bytes place)
Heard bytes place (Err r) = read_task bytes place ≡ refusal_is r
