-- The run theorem: parts leave what their bytes leave when they come at once, however they are cut, from any upload that is open.
use Prim.Native.Nat.{ℕ, zero, suc, ◌+◌, ◌-◌, ◌≤◌, ◌<◌}
use mathlib.Core.Path.{◌≡◌, refl, sym, ap, ◌∙◌}
use mathlib.Core.Bool.{true, false, cond}
use mathlib.Core.List.{List, [], ◌∷◌, ◌++◌, append-nil, append_assoc, flatten}
use mathlib.Core.Logic.{◌⊎◌, inl, inr}
use native.Mathlib.Nat.{add_assoc, add-zero}
use native.Mathlib.Omega.{arith}
use lib.Dec.{leb, ltb}
use lib.ListN.{length, take, drop, length-append}
use lib.Seq.{paste, paste-zero, length-paste, take-paste, drop-paste, take-append-le, take-append-add, take-length, drop-drop}
use borrow.Author.Tests.{lt-ltb, le-ltb, ltb-true, ltb-false, leb-true, leb-false}
use Rattle.model.proofs.Ranges.{decided}
use Rattle.parts.specs.declared.Upload.{Upload}
use Rattle.parts.specs.Upload.{is_open, fitting, Parted, part_gives, with_part, parted}
use Rattle.parts.specs.Run.{run}

pub fits_or_not : (n room : ℕ) → (n ≤ room) ⊎ (room < n)
fits_or_not n room =
    elim (decided (leb n room)) [
      | inl e ↦ inl (leb-true n room e)
      | inr e ↦ inr (leb-false n room e)
    ]

-- Two parts, of which the second fits only behind the whole of the first: what is taken of both, and the room.

take_joined :
    (a b : List ℕ) (i j : ℕ) → i ≤ length a → (i ≡ length a) ⊎ (j ≡ 0) → take (i + j) (a ++ b) ≡ take i a ++ take j b
take_joined a b i j within (inl whole) =
    ap (λ (n : ℕ). take (n + j) (a ++ b)) whole ∙ take-append-add a b j
    ∙ ap (λ (l : List ℕ). l ++ take j b) (sym (ap (λ (n : ℕ). take n a) whole ∙ take-length a))
take_joined a b i j within (inr none) =
    ap (λ (n : ℕ). take (i + n) (a ++ b)) none ∙ ap (λ (n : ℕ). take n (a ++ b)) (add-zero i) ∙ take-append-le i a b within
    ∙ sym (append-nil (take i a)) ∙ ap (λ (n : ℕ). take i a ++ take n b) (sym none)

module _ (room a b : List ℕ) (held i j : ℕ) (left : i ≤ length room - held) (first : i ≤ length a) where
  -- a room is as long as it was
  pub room_length : length (paste room held a i) ≡ length room
  room_length = by_count i left first
    where
      by_count : (i : ℕ) → i ≤ length room - held → i ≤ length a → length (paste room held a i) ≡ length room
      by_count zero l f = sym (ap length (paste-zero room held a))
      by_count (suc i) l f = length-paste room held a (suc i) (omega arith) f

  pub room_joined :
      (i ≡ length a) ⊎ (j ≡ 0) → j ≤ length room - (held + i)
      → paste (paste room held a i) (held + i) b j ≡ paste room held (a ++ b) (i + j)
  room_joined seam right =
      elim (fits_or_not held (length room)) [
        | inl l ↦ inside l
        | inr l ↦ outside (omega arith) (omega arith)
      ]
    where
      -- the room ends before the bytes held: nothing fits
      outside : i ≡ 0 → j ≡ 0 → paste (paste room held a i) (held + i) b j ≡ paste room held (a ++ b) (i + j)
      outside none more =
          let both : 0 ≡ i + j = omega arith in
          ap (paste (paste room held a i) (held + i) b) more ∙ sym (paste-zero (paste room held a i) (held + i) b) ∙ ap (paste room held a) none
          ∙ sym (paste-zero room held a) ∙ paste-zero room held (a ++ b) ∙ ap (paste room held (a ++ b)) both

      -- what stands before and behind the second part
      inside : held ≤ length room → paste (paste room held a i) (held + i) b j ≡ paste room held (a ++ b) (i + j)
      inside l =
          ap (λ (t : List ℕ). t ++ take j b ++ drop (held + i + j) (paste room held a i)) (take-paste room held a i l first)
          ∙ ap (λ (t : List ℕ). take held room ++ take i a ++ take j b ++ t) behind
          ∙ ap (λ (t : List ℕ). t ++ drop (held + (i + j)) room) front
        where
          front : take held room ++ take i a ++ take j b ≡ take held room ++ take (i + j) (a ++ b)
          front =
              append_assoc (take held room) (take i a) (take j b)
              ∙ ap (λ (t : List ℕ). take held room ++ t) (sym (take_joined a b i j first seam))

          behind : drop (held + i + j) (paste room held a i) ≡ drop (held + (i + j)) room
          behind =
              sym (drop-drop j (held + i) (paste room held a i)) ∙ ap (drop j) (drop-paste room held a i l first) ∙ drop-drop j (held + i) room
              ∙ ap (λ (n : ℕ). drop n room) (add_assoc held i j)

-- what fits of both, and the flag of bytes that did not
fitting_joined :
    (n held i j : ℕ) → fitting n held (i + j) ≡ fitting n held i + fitting n (held + fitting n held i) j
fitting_joined n held i j = omega arith

flag_joined :
    (i j k l over : ℕ) → i ≤ k → j ≤ l → cond (ltb j l) 1 (cond (ltb i k) 1 over) ≡ cond (ltb (i + j) (k + l)) 1 over
flag_joined i j k l over first second = by_test (decided (ltb i k)) (decided (ltb j l))
  where
    by_test :
        (ltb i k ≡ true) ⊎ (ltb i k ≡ false) → (ltb j l ≡ true) ⊎ (ltb j l ≡ false)
        → cond (ltb j l) 1 (cond (ltb i k) 1 over) ≡ cond (ltb (i + j) (k + l)) 1 over
    by_test e (inl f) = let y = ltb-true j l f in simp (f, lt-ltb (i + j) (k + l) (omega arith))
    by_test (inl e) (inr f) = let x = ltb-true i k e in simp (f, e, lt-ltb (i + j) (k + l) (omega arith))
    by_test (inr e) (inr f) =
        let x = ltb-false i k e in
        let y = ltb-false j l f in
        simp (f, e, le-ltb (i + j) (k + l) (omega arith))

-- a part of an open upload is taken
is_taken : (u : Upload) (room part : List ℕ) → is_open u ≡ true → parted u room part ≡ with_part u room part
unfolding parted
is_taken u room part opened = simp opened

-- what a part leaves, by its fields
abbrev made : ℕ → ℕ → ℕ → List ℕ → Parted
made closed held over room = part_gives 0 (record { held = held; over = over; closed = closed }) room

made_ext :
    (closed : ℕ) {held count over flag : ℕ} {room now : List ℕ} → held ≡ count → over ≡ flag → room ≡ now
    → made closed held over room ≡ made closed count flag now
made_ext closed {count = count} {over = over} {flag = flag} {room = room} e f g =
    ap (λ (h : ℕ). made closed h over room) e ∙ ap (λ (o : ℕ). made closed count o room) f ∙ ap (made closed count flag) g

-- a part that is taken, and then another, leave what both leave at once
module _ (u : Upload) (room a b : List ℕ) where
  abbrev n : ℕ
  n = length room

  abbrev i : ℕ
  i = fitting n u.held (length a)

  abbrev j : ℕ
  j = fitting n (u.held + i) (length b)

  -- what a second part of which k fit makes of what the first left, and what both make of what was there before
  abbrev second : ℕ → Parted
  second k =
      let flag = cond (ltb k (length b)) 1 (cond (ltb i (length a)) 1 u.over) in
      made u.closed (u.held + i + k) flag (paste (paste room u.held a i) (u.held + i) b k)

  abbrev both : ℕ → ℕ → Parted
  both k m = made u.closed (u.held + k) (cond (ltb k m) 1 u.over) (paste room u.held (a ++ b) k)

  second_both : second j ≡ both (i + j) (length a + length b)
  second_both =
      made_ext u.closed (add_assoc u.held i j) (flag_joined i j (length a) (length b) u.over (omega arith) (omega arith))
      (room_joined room a b u.held i j (omega arith) (omega arith) seam (omega arith))
    where
      seam : (i ≡ length a) ⊎ (j ≡ 0)
      seam =
          elim (fits_or_not (length a) i) [
            | inl l ↦ inl (omega arith)
            | inr l ↦ inr (omega arith)
          ]

  two_taken : with_part (with_part u room a).upload (with_part u room a).room b ≡ with_part u room (a ++ b)
  two_taken =
      ap (λ (m : ℕ). second (fitting m (u.held + i) (length b))) (room_length room a b u.held i j (omega arith) (omega arith))
      ∙ second_both
      ∙ ap (λ (k : ℕ). both k (length a + length b)) (sym (fitting_joined n u.held (length a) (length b)))
      ∙ ap (λ (m : ℕ). both (fitting n u.held m) m) (sym (length-append a b))

-- no byte leaves all as it was
none_taken : (u : Upload) (room : List ℕ) → part_gives 0 u room ≡ with_part u room []
none_taken u room =
    made_ext u.closed (sym (add-zero u.held)) refl (paste-zero room u.held [])
    ∙ ap (λ (k : ℕ). made u.closed (u.held + k) (cond (ltb k 0) 1 u.over) (paste room u.held [] k)) none
  where
    none : 0 ≡ fitting (length room) u.held 0
    none = omega arith

-- The run theorem.
pub run_joined :
    (u : Upload) (room : List ℕ) (parts : List (List ℕ)) → is_open u ≡ true
    → run (part_gives 0 u room) parts ≡ with_part u room (flatten parts)
unfolding run flatten
run_joined u room [] opened = none_taken u room
run_joined u room (part ∷ parts) opened =
    ap (λ (left : Parted). run left parts) (is_taken u room part opened)
    ∙ run_joined (with_part u room part).upload (with_part u room part).room parts opened
    ∙ two_taken u room part (flatten parts)

-- It does not matter where the parts are cut.
pub cuts_alike :
    (u : Upload) (room : List ℕ) (parts others : List (List ℕ)) → is_open u ≡ true → flatten parts ≡ flatten others
    → run (part_gives 0 u room) parts ≡ run (part_gives 0 u room) others
cuts_alike u room parts others opened same =
    run_joined u room parts opened ∙ ap (with_part u room) same ∙ sym (run_joined u room others opened)
