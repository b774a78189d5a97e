-- The records behind a task record, judged one after the other as the record table judges them, and the first that breaks it.
use Prim.Native.Nat.{ℕ, suc, ◌+◌, ◌*◌, ◌^◌, ◌≤◌, ◌<◌}
use mathlib.Core.Path.{◌≡◌, sym, ◌∙◌, ap, ap₂, subst}
use mathlib.Core.Bool.{Bool, true, false, cond, not, ◌&&◌, ◌||◌, and-true}
use mathlib.Core.List.{List}
use mathlib.Core.Logic.{◌⊎◌, inl, inr}
use native.Mathlib.Omega.{arith}
use lib.Dec.{eqb, ltb}
use borrow.Author.Tests.{eqb-true, eq-eqb, ne_eqb, ltb-true, ltb-false, lt-ltb}
use Rattle.model.specs.Limits.{most_vertices}
use Rattle.model.specs.Range.{least}
use Rattle.model.specs.Records.{Fields, records, little, fields_at, vertex_record, edge_record, rises, keeps_table, behind}
use Rattle.model.proofs.Ranges.{and_left, and_right, and_both, or_cases, or_left, or_right, decided, same_test, least_is}
use Rattle.model.proofs.Table.{row_missing, row_vertex, row_edge}
use Rattle.records.specs.Rows.{FirstBroken, edge_key}

-- The tests of an edge

module _ (n : ℕ) (r : Fields) where
  is_edge_lem :
      r.kind ≡ 3 → r.a ≡ 0 → r.b ≡ 0 → r.c < r.d → r.d < n → r.e ≡ 0 → edge_record n r ≡ true
  unfolding edge_record
  is_edge_lem k a b l m e =
      rw (eq-eqb r.kind 3 k, eq-eqb r.a 0 a, eq-eqb r.b 0 b, lt-ltb r.c r.d l, lt-ltb r.d n m, eq-eqb r.e 0 e)

  edge_is :
      edge_record n r ≡ true → (r.kind ≡ 3) × (r.a ≡ 0) × (r.b ≡ 0) × (r.c < r.d) × (r.d < n) × (r.e ≡ 0)
  unfolding edge_record
  edge_is h =
      let two = eqb r.kind 3 && eqb r.a 0 in
      let three = two && eqb r.b 0 in
      let four = three && ltb r.c r.d in
      let five = four && ltb r.d n in
      let h5 = and_left five _ h in
      let h4 = and_left four _ h5 in
      let h3 = and_left three _ h4 in
      let h2 = and_left two _ h3 in (
        eqb-true r.kind 3 (and_left (eqb r.kind 3) _ h2),
        eqb-true r.a 0 (and_right (eqb r.kind 3) _ h2),
        eqb-true r.b 0 (and_right two _ h3),
        ltb-true r.c r.d (and_right three _ h4),
        ltb-true r.d n (and_right four _ h5),
        eqb-true r.e 0 (and_right five _ h),
      )

  -- kind, A and B as one number, and D and E as one: so few vertices leave no room for an E but 0
  pub edge_tests :
      (head to : ℕ) → n ≤ most_vertices → head ≡ r.kind + 256 * (r.a + 256 * r.b) → to ≡ r.d + 2 ^ 32 * r.e
      → (eqb head 3 && ltb r.c to && ltb to n) ≡ edge_record n r
  edge_tests head to small h t =
      same_test (eqb head 3 && ltb r.c to && ltb to n) (edge_record n r)
      (λ p.
      let q = and_left (eqb head 3 && ltb r.c to) _ p in
      let three = eqb-true head 3 (and_left (eqb head 3) _ q) in
      let low = ltb-true r.c to (and_right (eqb head 3) _ q) in
      let high = ltb-true to n (and_right (eqb head 3 && ltb r.c to) _ p) in
      is_edge_lem (omega arith) (omega arith) (omega arith) (omega arith) (omega arith) (omega arith))
      (λ p.
      let f = edge_is p in
      let three : head ≡ 3 = omega arith in
      let low : r.c < to = omega arith in
      let high : to < n = omega arith in
      rw (eq-eqb head 3 three, lt-ltb r.c to low, lt-ltb to n high))

  key_edge : edge_record n r ≡ true → edge_key n r ≡ most_vertices * r.c + r.d
  unfolding edge_key
  key_edge h = rw h

  key_none : edge_record n r ≡ false → edge_key n r ≡ 0
  unfolding edge_key
  key_none h = rw h

  -- only an edge has a key above 0
  pub keyed : 0 < edge_key n r → edge_record n r ≡ true
  keyed l =
      elim (decided (edge_record n r)) [
        | inl h ↦ h
        | inr h ↦ absurd (omega (arith, key_none h))
      ]

  -- it has one: no edge leads to 0
  key_there : ltb 0 (edge_key n r) ≡ edge_record n r
  key_there =
      same_test (ltb 0 (edge_key n r)) (edge_record n r) (λ h. keyed (ltb-true 0 (edge_key n r) h))
      (λ h. let f = edge_is h in lt-ltb 0 (edge_key n r) (omega (arith, key_edge h)))

-- four bytes as kind, A and B
head_is : (bytes : List ℕ) (k : ℕ) → little bytes k 4 ≡ little bytes k 1 + 256 * (little bytes (k + 1) 1 + 256 * little bytes (k + 2) 2)
head_is bytes k =
    let one : suc k ≡ k + 1 = omega arith in
    let two : suc (suc k) ≡ k + 2 = omega arith in
    omega (arith, ap (λ j. little bytes j 1) one, ap (λ j. little bytes j 2) two)

-- the key by the numbers in the bytes of record i
pub key_is :
    (bytes : List ℕ) (i n head from to : ℕ) → n ≤ most_vertices → head ≡ little bytes (16 * i) 4 → from ≡ little bytes (16 * i + 4) 4
    → to ≡ little bytes (16 * i + 8) 4 + 2 ^ 32 * little bytes (16 * i + 12) 4
    → (b : Bool) → (eqb head 3 && ltb from to && ltb to n) ≡ b → cond b (most_vertices * from + to) 0 ≡ edge_key n (fields_at bytes i)
unfolding fields_at
key_is bytes i n head from to small h f t b e =
    let r = fields_at bytes i in
    let whole : to ≡ r.d + 2 ^ 32 * r.e = t in
    let is : edge_record n r ≡ b = sym (edge_tests n r head to small (h ∙ head_is bytes (16 * i)) whole) ∙ (rw f at e) in
    elim (decided b) [
      | inl y ↦ let edge = is ∙ y in ap (λ a. cond a (most_vertices * from + to) 0) y ∙ omega (arith, edge_is n r edge, key_edge n r edge)
      | inr y ↦ ap (λ a. cond a (most_vertices * from + to) 0) y ∙ sym (key_none n r (is ∙ y))
    ]

-- among vertices below 64 keys go by (from, to)
key_rises :
    (n : ℕ) (r s : Fields) → n ≤ most_vertices → edge_record n r ≡ true → ltb (edge_key n r) (edge_key n s) ≡ (edge_record n s && rises r s)
unfolding rises
key_rises n r s small edge =
    let last = edge_is n r edge in
    same_test (ltb (edge_key n r) (edge_key n s)) (edge_record n s && rises r s)
    (λ h.
    let l = ltb-true (edge_key n r) (edge_key n s) h in
    let here = keyed n s (omega arith) in
    let f = edge_is n s here in
    and_both (edge_record n s) (rises r s) here
    (elim (decided (ltb r.c s.c)) [
      | inl b ↦ or_left (ltb r.c s.c) _ b
      | inr b ↦
          let high = ltb-false r.c s.c b in
          let same : r.c ≡ s.c = omega (arith, key_edge n r edge, key_edge n s here) in
          or_right (ltb r.c s.c) _
          (and_both (eqb r.c s.c) _ (eq-eqb r.c s.c same)
          (lt-ltb r.d s.d (omega (arith, key_edge n r edge, key_edge n s here))))
    ]))
    (λ h.
    let here = and_left (edge_record n s) (rises r s) h in
    let f = edge_is n s here in
    lt-ltb (edge_key n r) (edge_key n s)
    (elim (or_cases (ltb r.c s.c) _ (and_right (edge_record n s) (rises r s) h)) [
      | inl b ↦ omega (arith, ltb-true r.c s.c b, key_edge n r edge, key_edge n s here)
      | inr b ↦
          omega (
            arith,
            eqb-true r.c s.c (and_left (eqb r.c s.c) _ b),
            ltb-true r.d s.d (and_right (eqb r.c s.c) _ b),
            key_edge n r edge,
            key_edge n s here,
          )
    ]))

-- One record after the other

module _ (bytes : List ℕ) (place : ℕ) where
  -- the key of the edge before record j, 0 before the first
  abbrev pub Last : ℕ → ℕ → ℕ → Type 0
  Last n j last =
      ((j ≡ n) × (last ≡ 0))
      ⊎ ((n < j) × (edge_record n (fields_at bytes (place + j)) ≡ true) × (last ≡ edge_key n (fields_at bytes (place + j))))

  module _ (n j : ℕ) (size : n ≡ (fields_at bytes place).b) (there : place + 1 + j < records bytes) where
    pub vertex_row : j < n → vertex_record n j (fields_at bytes (place + 1 + j)) ≡ keeps_table bytes place j
    vertex_row l = rw size (sym (row_vertex bytes place j there (rw size at l)))

    module _ (key : ℕ) (is_key : key ≡ edge_key n (fields_at bytes (place + 1 + j))) where
      -- record j keeps the table where its key is above the last
      pub edge_row : n ≤ most_vertices → n ≤ j → (last : ℕ) → Last n j last → ltb last key ≡ keeps_table bytes place j
      edge_row small l last before =
          let prev = fields_at bytes (place + j) in
          let here = fields_at bytes (place + 1 + j) in
          let row : keeps_table bytes place j ≡ (edge_record n here && (eqb j n || rises prev here)) =
          rw size (row_edge bytes place j there (rw size at l)) in
          elim before [
            | inl w ↦
                ap₂ ltb w.1 is_key ∙ key_there n here ∙ sym (and-true (edge_record n here))
                ∙ ap (λ b. edge_record n here && (b || rises prev here)) (sym (eq-eqb j n w.0)) ∙ sym row
            | inr w ↦
                let low = w.0 in
                ap₂ ltb w.2 is_key ∙ key_rises n prev here small w.1
                ∙ ap (λ b. edge_record n here && (b || rises prev here)) (sym (ne_eqb j n (λ e. omega arith))) ∙ sym row
          ]

      -- and it is the last for the next
      pub edge_next : (last : ℕ) → n ≤ j → last < key → Last n (j + 1) key
      edge_next last l above =
          let at : place + 1 + j ≡ place + (j + 1) = omega arith in
          inr (
            omega arith,
            subst (λ i. edge_record n (fields_at bytes i) ≡ true) at (keyed n (fields_at bytes (place + 1 + j)) (omega arith)),
            subst (λ i. key ≡ edge_key n (fields_at bytes i)) at is_key,
          )

  -- The first that breaks the table

  -- how many records stand behind a task record as it was decoded
  pub behind_is : {task : Fields} → task ≡ fields_at bytes place → task.b + task.e ≡ behind bytes place
  unfolding behind
  behind_is t = rw t

  -- the first before an end is the first before a later one, unless it is that end and a record is there
  broken_same :
      (end all j : ℕ) → end ≤ all → FirstBroken bytes place end j → (j ≡ end → end < all → records bytes ≤ place + 1 + j)
      → FirstBroken bytes place all j
  broken_same end all j within first missing =
      record {
        within = omega (arith, first.within);
        before = first.before;
        broken = λ l.
            elim (decided (ltb j end)) [
              | inl b ↦ first.broken (ltb-true j end b)
              | inr b ↦
                  let low = first.within in
                  let high = ltb-false j end b in
                  row_missing bytes place j (missing (omega arith) (omega arith))
            ];
      }

  pub broken_first :
      (end j : ℕ) → end ≤ behind bytes place → FirstBroken bytes place end j → (j ≡ end → end < behind bytes place → records bytes ≤ place + 1 + j)
      → j ≡ least (behind bytes place) (λ i. not (keeps_table bytes place i))
  broken_first end j within first missing =
      let all = broken_same end (behind bytes place) j within first missing in
      sym (least_is (behind bytes place) (λ i. not (keeps_table bytes place i)) j all.within (λ i l. ap not (all.before i l)) (λ l. ap not (all.broken l)))
