-- What a call of demand or of layers gets, by the task that it asks for.
use Prim.Native.Nat.{ℕ, ◌≤◌}
use mathlib.Core.Path.{◌≡◌}
use mathlib.Core.Bool.{true, false}
use mathlib.Core.List.{List}
use borrow.Author.Tests.{le-leb}
use Rattle.model.specs.Limits.{most_tick}
use Rattle.model.specs.Records.{reading}
use Rattle.model.specs.Speeds.{speed_fits}
use Rattle.model.specs.Entries.{Asked, asked, Demanded, demanded_for, demanded, Layered, no_layers, layered_for, layered}

-- a call of demand in range gets what is given for the task that it asks for
pub call_taken :
    (bytes : List ℕ) (i p q x : ℕ) {found : Asked} {answer : Demanded} → speed_fits p q ≡ true → x ≤ most_tick
    → found ≡ asked (reading bytes) i → answer ≡ demanded_for bytes found p q x → answer ≡ demanded bytes i p q x
unfolding demanded
call_taken bytes i p q x speed tick is given = rw (← is, speed, le-leb x most_tick tick) given

-- a call of layers at p/q, for the task that is found
module _ (bytes : List ℕ) (i p q : ℕ) (lent : List ℕ) where
  pub bad_speed : speed_fits p q ≡ false → no_layers 1 0 lent ≡ layered bytes i p q lent
  unfolding layered
  bad_speed breaks = rw breaks

  pub at_speed_lem :
      {found : Asked} {given : Layered} → speed_fits p q ≡ true → found ≡ asked (reading bytes) i
      → given ≡ layered_for bytes found q lent → given ≡ layered bytes i p q lent
  unfolding layered
  at_speed_lem fits same gives = rw (fits, ← same) gives
