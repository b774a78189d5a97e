-- What a part and a closing make of an upload and of the room, and what they answer, for any upload and any room.
use Rattle.std.specs.Prelude.{ℕ, ◌+◌, ◌-◌, min, ◌≡◌, Bool, true, false, cond, not, ◌||◌, List, eqb, ltb, length, take}
use Rattle.std.proofs.Math.Seq.{paste}
use Rattle.model.specs.Entries.{Answer, refusal, judge_takes, Judged}
use Rattle.parts.specs.declared.Upload.{Upload}

-- an upload that is begun
abbrev pub new_upload : Upload
new_upload = record { held = 0; over = 0; closed = 0 }

-- "12 .. for a part or closing after a closing": whether none came yet
abbrev pub is_open : Upload → Bool
is_open u = eqb u.closed 0

-- "as far as they fit": how many of `more` bytes go behind those held, in a room of n bytes
abbrev pub fitting : ℕ → ℕ → ℕ → ℕ
fitting n held more = min more (n - held)

-- What a part gives, and leaves.
pub record Parted : Type 0 where
  pub number : ℕ
  pub upload : Upload
  pub room : List ℕ

-- the number that the code gives, and the upload and the room as they then stand
abbrev pub part_gives : ℕ → Upload → List ℕ → Parted
part_gives number upload room = record { number = number; upload = upload; room = room }

-- "holds the joined bytes at its front as far as they fit; the rest stays"
abbrev pub with_part : Upload → List ℕ → List ℕ → Parted
with_part u room part =
    let count = fitting (length room) u.held (length part) in
    let over = cond (ltb count (length part)) 1 u.over in
    part_gives 0 (record { held = u.held + count; over = over; closed = u.closed }) (paste room u.held part count)

-- "12, before 1, for a part or closing after a closing, changing nothing until the reader is begun anew"
unfoldable pub parted : Upload → List ℕ → List ℕ → Parted
parted u room part = cond (is_open u) (with_part u room part) (part_gives 12 u room)

-- "exactly if the joined bytes exceed the room": some did not fit, or a room of n bytes is shorter than what it is to hold
abbrev pub room_exceeded : Upload → ℕ → Bool
room_exceeded u n = not (eqb u.over 0) || ltb n u.held

-- The answer for bytes that exceed the room, or do not: "11 at closing, after 1 and before 2, exactly if the joined bytes exceed the
-- room"; else "the number, place, x and W equal what judge gives"
pub data Received (long : Bool) (bytes : List ℕ) (m p q : ℕ) : Answer → Type 0 where
  wrong_call : judge_takes m p q ≡ false → Received long bytes m p q (refusal 1 0)
  exceeding : judge_takes m p q ≡ true → long ≡ true → Received long bytes m p q (refusal 11 0)
  whole : (a : Answer) → long ≡ false → Judged bytes m p q a → Received long bytes m p q a

-- The answer of a closing: "12, before 1", if it is not the first; else for what stands at the room's front.
pub data ClosingJudged (u : Upload) (room : List ℕ) (m p q : ℕ) : Answer → Type 0 where
  again : is_open u ≡ false → ClosingJudged u room m p q (refusal 12 0)
  first :
      (a : Answer) → is_open u ≡ true → Received (room_exceeded u (length room)) (take u.held room) m p q a
      → ClosingJudged u room m p q a

-- "Any other closing closes it, whatever the answer; a refused one changes nothing but that."
unfoldable pub with_closing : Upload → Upload
with_closing u = record { held = u.held; over = u.over; closed = cond (is_open u) 1 u.closed }
