-- What the statements of the calls promise: each answer is the only one, a closing answers as judge does for the joined bytes, and a closed upload
-- stays as it is.
use Prim.Native.Nat.{ℕ, ◌≤◌, ◌<◌}
use mathlib.Core.Path.{◌≡◌, refl, sym, ap, subst}
use mathlib.Core.Bool.{Bool, true, false}
use mathlib.Core.List.{List, [], ◌∷◌, flatten}
use mathlib.Core.Logic.{◌↔◌, inl, inr}
use native.Mathlib.Omega.{arith}
use lib.ListN.{length}
use borrow.Author.Tests.{le-ltb, lt-ltb, ltb-true}
use Rattle.model.specs.Curve.{Outcome, accepted, dense, overrun}
use Rattle.model.specs.Entries.{Answer, answer_of, Judged, bad_call, unread, long_cycle, judged, judge_takes}
use Rattle.model.proofs.Answers.{judged_once, answer_once}
use Rattle.model.proofs.Ranges.{decided, not_both}
use Rattle.model.proofs.Reading.{read_numbers}
use Rattle.entries.specs.Given.{judge_gives}
use Rattle.entries.proofs.Promises.{gives_once}
use Rattle.entries.specs.declared.SetVerdict.{SetVerdict}
use Rattle.parts.specs.declared.Upload.{Upload}
use Rattle.parts.specs.Upload.{is_open, Parted, part_gives, parted, Received, wrong_call, exceeding, whole, ClosingJudged, again, first, with_closing}
use Rattle.parts.specs.Run.{run, beginning, Arrived}
use Rattle.parts.proofs.ClosingRun.{closes_arrived}

-- Two answers that satisfy one statement are equal.

pub part_once :
    (u : Upload) (room part : List ℕ) (number other : ℕ) (new anew : Upload) (now then : List ℕ)
    → part_gives number new now ≡ parted u room part → part_gives other anew then ≡ parted u room part
    → (number ≡ other) × (new ≡ anew) × (now ≡ then)
part_once u room part number other new anew now then e f =
    let same = answer_once e f in
    (ap (λ (left : Parted). left.number) same, ap (λ (left : Parted). left.upload) same, ap (λ (left : Parted). left.room) same)

received_once :
    (long : Bool) (bytes : List ℕ) (m p q : ℕ) {a b : Answer} → Received long bytes m p q a → Received long bytes m p q b → a ≡ b
received_once long bytes m p q (wrong_call e) (wrong_call f) = refl
received_once long bytes m p q (wrong_call e) (exceeding f x) = absurd (not_both _ f e)
received_once long bytes m p q (wrong_call e) (whole b x k) = judged_once bytes m p q (bad_call e) k
received_once long bytes m p q (exceeding e x) (wrong_call f) = absurd (not_both _ e f)
received_once long bytes m p q (exceeding e x) (exceeding f y) = refl
received_once long bytes m p q (exceeding e x) (whole b y k) = absurd (not_both long x y)
received_once long bytes m p q (whole a x j) (wrong_call f) = judged_once bytes m p q j (bad_call f)
received_once long bytes m p q (whole a x j) (exceeding f y) = absurd (not_both long y x)
received_once long bytes m p q (whole a x j) (whole b y k) = judged_once bytes m p q j k

pub closes_once :
    (u : Upload) (room : List ℕ) (m p q : ℕ) {a b : Answer} → ClosingJudged u room m p q a → ClosingJudged u room m p q b → a ≡ b
closes_once u room m p q (again e) (again f) = refl
closes_once u room m p q (again e) (first b f k) = absurd (not_both (is_open u) f e)
closes_once u room m p q (first a e j) (again f) = absurd (not_both (is_open u) e f)
closes_once u room m p q (first a e j) (first b f k) = received_once _ _ m p q j k

pub close_once :
    (u : Upload) (room : List ℕ) (m p q : ℕ) (new anew : Upload) (r s : SetVerdict)
    → (new ≡ with_closing u) × ClosingJudged u room m p q (judge_gives r) → (anew ≡ with_closing u) × ClosingJudged u room m p q (judge_gives s)
    → (new ≡ anew) × (r ≡ s)
close_once u room m p q new anew r s (e, j) (f, k) = (answer_once e f, gives_once r s (closes_once u room m p q j k))

-- judge has no number above 9
finding_number : (ps : List ℕ) (o : Outcome) (a b : ℕ) → (answer_of ps o a b).number ≤ 9
finding_number ps accepted a b = omega arith
finding_number ps (dense i) a b = omega arith
finding_number ps (overrun x w) a b = omega arith

judged_number : (bytes : List ℕ) (m p q : ℕ) {a : Answer} → Judged bytes m p q a → a.number ≤ 9
judged_number bytes m p q (bad_call e) = omega arith
judged_number bytes m p q (unread number place e d) = omega (arith, (read_numbers bytes number place d).1)
judged_number bytes m p q (long_cycle ps e d h) = omega arith
judged_number bytes m p q (judged ps o a b e d h finds) = finding_number ps o a b

-- A closing after any run of parts, against judge on the joined bytes.
module _ (room : List ℕ) (parts : List (List ℕ)) (m p q : ℕ) (r : SetVerdict)
    (closes : ClosingJudged (run (beginning room) parts).upload (run (beginning room) parts).room m p q (judge_gives r)) where
  -- If they fit, the answers are equal in every field.
  pub same_as_judge :
      (s : SetVerdict) → length (flatten parts) ≤ length room → Judged (flatten parts) m p q (judge_gives s) → r ≡ s
  same_as_judge s fits j =
      gives_once r s
      (received_once _ (flatten parts) m p q (closes_arrived room parts m p q closes) (whole (judge_gives s) (le-ltb _ _ fits) j))

  -- For a call in range, the number is 11 exactly if they exceed the room.
  pub eleven_exactly : judge_takes m p q ≡ true → (r.number ≡ 11) ↔ (length room < length (flatten parts))
  unfolding judge_gives
  eleven_exactly takes =
      (is_long heard, λ long. ap (λ (a : Answer). a.number) (received_once _ _ m p q heard (exceeding takes (lt-ltb _ _ long))))
    where
      heard : Arrived room (flatten parts) m p q (judge_gives r)
      heard = closes_arrived room parts m p q closes

      is_long : {a : Answer} → Arrived room (flatten parts) m p q a → a.number ≡ 11 → length room < length (flatten parts)
      is_long (wrong_call e) n = absurd (not_both _ takes e)
      is_long (exceeding e l) n = ltb-true _ _ l
      is_long (whole a e j) n = absurd (let few = judged_number (flatten parts) m p q j in omega arith)

-- Once closed, an upload stays as it is, and so does every room, until it is begun anew.
pub shut_closes : (u : Upload) → is_open (with_closing u) ≡ false
unfolding with_closing
shut_closes u =
    elim (decided (is_open u)) [
      | inl e ↦ simp e
      | inr e ↦ simp e
    ]

pub closed_stays :
    (u : Upload) (room part : List ℕ) → is_open u ≡ false → (parted u room part ≡ part_gives 12 u room) × (with_closing u ≡ u)
unfolding parted with_closing
closed_stays u room part e = (simp e, simp e)

pub closed_run :
    (u : Upload) (room : List ℕ) (number : ℕ) (parts : List (List ℕ)) → is_open u ≡ false
    → ((run (part_gives number u room) parts).upload ≡ u) × ((run (part_gives number u room) parts).room ≡ room)
unfolding run
closed_run u room number [] e = (refl, refl)
closed_run u room number (part ∷ parts) e =
    subst (λ (left : Parted). ((run left parts).upload ≡ u) × ((run left parts).room ≡ room)) (sym (closed_stays u room part e).0)
    (closed_run u room 12 parts e)
