-- What the parts leave from the beginning on, and what a closing then answers.
use Prim.Native.Nat.{ℕ, ◌+◌, ◌≤◌, ◌<◌}
use mathlib.Core.Path.{◌≡◌, refl, sym, ap, ◌∙◌, subst}
use mathlib.Core.Bool.{Bool, true, cond, true≢false}
use mathlib.Core.List.{List, ◌++◌, append-nil, flatten}
use mathlib.Core.Logic.{inl, inr}
use native.Mathlib.Nat.{zero-add}
use native.Mathlib.Omega.{arith}
use lib.Dec.{ltb}
use lib.ListN.{length, take, drop, length-append, length-drop, drop_of_length-le}
use lib.Seq.{take_all, take-length, take-append_seam}
use borrow.Author.Tests.{lt-ltb, le-ltb}
use Rattle.model.specs.Entries.{Answer}
use Rattle.parts.specs.declared.Upload.{Upload}
use Rattle.parts.specs.Upload.{new_upload, fitting, Parted, with_part, room_exceeded, Received, wrong_call, exceeding, whole, ClosingJudged, again, first}
use Rattle.parts.specs.Run.{run, beginning, Arrived}
use Rattle.parts.proofs.Joined.{fits_or_not, run_joined}

-- an open upload that holds n bytes, and whether some did not fit
abbrev holding : ℕ → ℕ → Upload
holding n flag = record { held = n; over = flag; closed = 0 }

-- What the joined bytes leave when they come at once: whole if they fit, and else as many as the room has.

module _ (room joined : List ℕ) where
  abbrev left_at : ℕ → Upload
  left_at k = holding (0 + k) (cond (ltb k (length joined)) 1 0)

  upload_whole : length joined ≤ length room → (with_part new_upload room joined).upload ≡ holding (length joined) 0
  upload_whole fits =
      let count : fitting (length room) 0 (length joined) ≡ length joined = omega arith in
      ap left_at count ∙ ap (λ (k : ℕ). holding k (cond (ltb (length joined) (length joined)) 1 0)) (zero-add (length joined))
      ∙ ap (λ (t : Bool). holding (length joined) (cond t 1 0)) (le-ltb (length joined) (length joined) (omega arith))

  upload_full : length room < length joined → (with_part new_upload room joined).upload ≡ holding (length room) 1
  upload_full long =
      let count : fitting (length room) 0 (length joined) ≡ length room = omega arith in
      ap left_at count ∙ ap (λ (k : ℕ). holding k (cond (ltb (length room) (length joined)) 1 0)) (zero-add (length room))
      ∙ ap (λ (t : Bool). holding (length room) (cond t 1 0)) (lt-ltb (length room) (length joined) long)

  abbrev room_at : ℕ → List ℕ
  room_at k = take k joined ++ drop (0 + k) room

  room_whole : length joined ≤ length room → (with_part new_upload room joined).room ≡ joined ++ drop (length joined) room
  room_whole fits =
      let count : fitting (length room) 0 (length joined) ≡ length joined = omega arith in
      ap room_at count ∙ ap (λ (l : List ℕ). l ++ drop (0 + length joined) room) (take-length joined)
      ∙ ap (λ (k : ℕ). joined ++ drop k room) (zero-add (length joined))

  room_full : length room < length joined → (with_part new_upload room joined).room ≡ take (length room) joined
  room_full long =
      let count : fitting (length room) 0 (length joined) ≡ length room = omega arith in
      ap room_at count
      ∙ ap (λ (l : List ℕ). take (length room) joined ++ l) (drop_of_length-le room {i = 0 + length room} (omega arith))
      ∙ append-nil (take (length room) joined)

-- what a run from the beginning leaves
at_once : (room : List ℕ) (parts : List (List ℕ)) → run (beginning room) parts ≡ with_part new_upload room (flatten parts)
at_once room parts = run_joined new_upload room parts refl

-- every part of a run is answered with 0
pub part_answered : (room : List ℕ) (parts : List (List ℕ)) → (run (beginning room) parts).number ≡ 0
part_answered room parts = ap (λ (left : Parted). left.number) (at_once room parts)

-- "holds the joined bytes at its front as far as they fit; the rest stays"
pub room_holds :
    (room : List ℕ) (parts : List (List ℕ))
    → (run (beginning room) parts).room ≡ take (length room) (flatten parts) ++ drop (length (flatten parts)) room
room_holds room parts =
    ap (λ (left : Parted). left.room) (at_once room parts)
    ∙ elim (fits_or_not (length joined) (length room)) [
      | inl fits ↦ whole_room fits
      | inr long ↦ full_room long
    ]
  where
    joined : List ℕ
    joined = flatten parts

    whole_room : length joined ≤ length room → (with_part new_upload room joined).room ≡ take (length room) joined ++ drop (length joined) room
    whole_room fits =
        room_whole room joined fits ∙ ap (λ (l : List ℕ). l ++ drop (length joined) room) (sym (take_all (length room) joined fits))

    full_room : length room < length joined → (with_part new_upload room joined).room ≡ take (length room) joined ++ drop (length joined) room
    full_room long =
        room_full room joined long ∙ sym (append-nil (take (length room) joined))
        ∙ ap (λ (l : List ℕ). take (length room) joined ++ l) (sym (drop_of_length-le room {i = length joined} (omega arith)))

-- an open upload is closed with the answer for what stands at the room's front
closes_received :
    (n flag : ℕ) (room : List ℕ) (m p q : ℕ) {a : Answer} → ClosingJudged (holding n flag) room m p q a
    → Received (room_exceeded (holding n flag) (length room)) (take n room) m p q a
closes_received n flag room m p q (again e) = absurd (true≢false e)
closes_received n flag room m p q (first a e r) = r

-- of bytes that exceed the room nothing is looked at
long_any :
    (bytes others : List ℕ) (m p q : ℕ) {a : Answer} → Received true bytes m p q a → Received true others m p q a
long_any bytes others m p q (wrong_call bad) = wrong_call bad
long_any bytes others m p q (exceeding good e) = exceeding good e
long_any bytes others m p q (whole a e j) = absurd (true≢false e)

-- Where the bytes fit: "If the caller changed the room, the answer is judge's for what stands there."
pub closes_changed :
    (room now : List ℕ) (parts : List (List ℕ)) (m p q : ℕ) {a : Answer} → length (flatten parts) ≤ length room
    → ClosingJudged (run (beginning room) parts).upload now m p q a
    → Received (ltb (length now) (length (flatten parts))) (take (length (flatten parts)) now) m p q a
closes_changed room now parts m p q {a} fits closes =
    let held = ap (λ (left : Parted). left.upload) (at_once room parts) ∙ upload_whole room (flatten parts) fits in
    closes_received (length (flatten parts)) 0 now m p q (subst (λ (u : Upload). ClosingJudged u now m p q a) held closes)

-- A closing after a run of parts answers as judge does for the joined bytes, or 11 exactly if they exceed the room.
pub closes_arrived :
    (room : List ℕ) (parts : List (List ℕ)) (m p q : ℕ) {a : Answer}
    → ClosingJudged (run (beginning room) parts).upload (run (beginning room) parts).room m p q a
    → Arrived room (flatten parts) m p q a
closes_arrived room parts m p q {a} closes =
    elim (fits_or_not (length joined) (length room)) [
      | inl fits ↦ fit fits
      | inr less ↦ long less
    ]
  where
    joined : List ℕ
    joined = flatten parts

    now : List ℕ
    now = (run (beginning room) parts).room

    fit : length joined ≤ length room → Arrived room joined m p q a
    fit fits =
        let rest = drop (length joined) room in
        let held : now ≡ joined ++ rest = ap (λ (left : Parted). left.room) (at_once room parts) ∙ room_whole room joined fits in
        let front : take (length joined) now ≡ joined = ap (take (length joined)) held ∙ take-append_seam joined rest in
        let same : length now ≡ length room = omega (arith, ap length held, length-append joined rest, length-drop (length joined) room) in
        subst (λ (l : List ℕ). Received (ltb (length room) (length joined)) l m p q a) front
        (subst (λ (n : ℕ). Received (ltb n (length joined)) (take (length joined) now) m p q a) same
        (closes_changed room now parts m p q fits closes))

    long : length room < length joined → Arrived room joined m p q a
    long less =
        let over = ap (λ (left : Parted). left.upload) (at_once room parts) ∙ upload_full room joined less in
        let heard = closes_received (length room) 1 now m p q (subst (λ (u : Upload). ClosingJudged u now m p q a) over closes) in
        subst (λ (t : Bool). Received t joined m p q a) (sym (lt-ltb (length room) (length joined) less))
        (long_any _ joined m p q heard)
