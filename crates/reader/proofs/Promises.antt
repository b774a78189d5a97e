-- What the statement of `read` promises: its whole answer, since two answers that satisfy it are equal.
use Prim.Native.Nat.{ℕ, zero, suc}
use mathlib.Core.Path.{◌≡◌, refl, sym, ◌∙◌, ap}
use mathlib.Core.List.{List}
use Rattle.std.specs.Prelude.{Result, Ok, Err}
use Rattle.model.specs.Records.{Reading, tasks_at, refused, reading}
use Rattle.reader.specs.Answer.{reading_is}
use Rattle.reader.specs.declared.refusal.Refusal.{Refusal}
use Rattle.reader.specs.declared.refusal.Refusal.TheVariants.{Length, Record, Graph, Tasks}

-- number and place tell the refusal
abbrev refusal_of : ℕ → ℕ → Refusal
refusal_of (suc (suc zero)) place = Length
refusal_of (suc (suc (suc zero))) place = Record place
refusal_of (suc (suc (suc (suc zero)))) place = Graph place
refusal_of number place = Tasks place

abbrev back : Reading → Result (List ℕ) Refusal
back (tasks_at places) = Ok places
back (refused number place) = Err (refusal_of number place)

back_is : (r : Result (List ℕ) Refusal) → back (reading_is r) ≡ r
back_is (Ok places) = refl
back_is (Err Length) = refl
back_is (Err (Record place)) = refl
back_is (Err (Graph place)) = refl
back_is (Err (Tasks place)) = refl

pub read_once :
    (bytes : List ℕ) (r s : Result (List ℕ) Refusal) → reading_is r ≡ reading bytes → reading_is s ≡ reading bytes → r ≡ s
read_once bytes r s e f = sym (back_is r) ∙ ap back (e ∙ sym f) ∙ back_is s
