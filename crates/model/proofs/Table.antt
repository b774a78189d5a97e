-- What the record table tells of a task whose records keep it, before its graph is judged.
use Prim.Native.Nat.{ℕ, suc, ◌+◌, ◌-◌, ◌≤◌, ◌<◌}
use mathlib.Core.Path.{◌≡◌, sym, ◌∙◌, subst₂}
use mathlib.Core.Bool.{Bool, true, false, ◌&&◌, ◌||◌, false≢true}
use mathlib.Core.List.{List, [], ◌∷◌}
use mathlib.Core.Logic.{inl, inr}
use native.Mathlib.Nat.{add_assoc}
use native.Mathlib.Omega.{arith}
use lib.Dec.{leb, ltb, eqb}
use lib.ListN.{get_or-eq_default}
use borrow.Author.Tests.{ltb-true, ltb-false, lt-ltb, le-ltb, leb-true, eqb-true}
use Rattle.model.specs.Limits.{most_mills, most_vertices, most_edges, longest_job, longest_period}
use Rattle.model.specs.Range.{listed}
use Rattle.model.specs.Graph.{Edge, size, role, mate, edge, lists_edge}
use Rattle.model.specs.Realization.{time}
use Rattle.model.specs.Records.{Fields, fields_at, records, task_record, role_and_mate, vertex_record, edge_record, rises, keeps_table, behind, shape_at, task_at}
use Rattle.model.proofs.Ranges.{and_left, and_right, or_cases, decided, not_both, length_listed, get_d_listed}
use Rattle.model.proofs.Lists.{each_listed, each_get_d, Each}

-- Tests

-- a test and those after it, in a row of `&&`
abbrev row : Bool → List Bool → Bool
row a [] = a
row a (b ∷ bs) = row (a && b) bs

-- each test of a row that holds
row_each : (a : Bool) (bs : List Bool) → row a bs ≡ true → Each (λ b. b ≡ true) (a ∷ bs)
row_each a [] h = (h, tt)
row_each a (b ∷ bs) h =
    let rest = row_each (a && b) bs h in
    (and_left a b rest.0, (and_right a b rest.0, rest.1))

-- what holds of each edge of a list holds of an edge that it lists
lists_edge_lem :
    (P : Edge → Type 0) (es : List Edge) (u v : ℕ) → Each P es → lists_edge es u v ≡ true → P (record { from = u; to = v })
lists_edge_lem P [] u v h k = absurd (false≢true k)
lists_edge_lem P (e ∷ es) u v h k =
    let from-u = eqb e.from u in
    let to-v = eqb e.to v in
    elim (or_cases (from-u && to-v) (lists_edge es u v) k) [
      | inl a ↦
          subst₂ (λ x y. P (record { from = x; to = y }))
          (eqb-true e.from u (and_left from-u to-v a))
          (eqb-true e.to v (and_right from-u to-v a))
          h.0
      | inr b ↦ lists_edge_lem P es u v h.1 b
    ]

-- Records: what the tests of a record tell that the rest needs

pub task_record_lem :
    (r : Fields) → task_record r ≡ true
    → (1 ≤ r.b) × (r.b ≤ most_vertices) × (1 ≤ r.c) × (r.c ≤ r.d) × (r.d ≤ longest_period) × (r.e ≤ most_edges)
unfolding task_record
task_record_lem r h =
    let timing = leb 1 r.c ∷ leb r.c r.d ∷ leb 1 r.d ∷ leb r.d longest_period ∷ leb r.e most_edges ∷ [] in
    let others = leb 1 r.a ∷ leb r.a most_mills ∷ leb 1 r.b ∷ leb r.b most_vertices ∷ timing in
    let tests = row_each (eqb r.kind 1) others h in
    omega (arith, leb-true)

role_most : (n v r m : ℕ) → role_and_mate n v r m ≡ true → r ≤ 2
unfolding role_and_mate
role_most n v r m h =
    elim (or_cases (eqb r 0 && eqb m 0 || eqb r 1 && ltb v m && ltb m n) (eqb r 2 && ltb m v) h) [
      | inl a ↦
          elim (or_cases (eqb r 0 && eqb m 0) (eqb r 1 && ltb v m && ltb m n) a) [
            | inl k ↦ omega (arith, eqb-true r 0 (and_left (eqb r 0) (eqb m 0) k))
            | inr k ↦ omega (arith, eqb-true r 1 (and_left (eqb r 1) (ltb v m) (and_left (eqb r 1 && ltb v m) (ltb m n) k)))
          ]
      | inr b ↦ omega (arith, eqb-true r 2 (and_left (eqb r 2) (ltb m v) b))
    ]

start_mate_lem : (n v m : ℕ) → role_and_mate n v 1 m ≡ true → (v < m) × (m < n)
unfolding role_and_mate
start_mate_lem n v m h =
    elim (or_cases (ltb v m && ltb m n) false h) [
      | inl a ↦ (ltb-true v m (and_left (ltb v m) (ltb m n) a), ltb-true m n (and_right (ltb v m) (ltb m n) a))
      | inr b ↦ absurd (false≢true b)
    ]

end_mate_lem : (n v m : ℕ) → role_and_mate n v 2 m ≡ true → m < v
unfolding role_and_mate
end_mate_lem n v m h = ltb-true m v h

vertex_record_lem : (n v : ℕ) (r : Fields) → vertex_record n v r ≡ true → (role_and_mate n v r.a r.b ≡ true) × (r.c ≤ longest_job)
unfolding vertex_record
vertex_record_lem n v r h =
    let others = role_and_mate n v r.a r.b ∷ leb r.c longest_job ∷ eqb r.d 0 ∷ eqb r.e 0 ∷ [] in
    let tests = row_each (eqb r.kind 2) others h in
    (tests.1.0, leb-true r.c longest_job tests.1.1.0)

edge_record_lem : (n : ℕ) (r : Fields) → edge_record n r ≡ true → (r.c < r.d) × (r.d < n)
unfolding edge_record
edge_record_lem n r h =
    let others = eqb r.a 0 ∷ eqb r.b 0 ∷ ltb r.c r.d ∷ ltb r.d n ∷ eqb r.e 0 ∷ [] in
    let tests = row_each (eqb r.kind 3) others h in
    omega (arith, ltb-true)

-- Record j behind the task record: missing past the end, a vertex record up to the number of vertices, an edge record from there on
module _ (bytes : List ℕ) (place j : ℕ) where
  pub row_missing : records bytes ≤ place + 1 + j → keeps_table bytes place j ≡ false
  unfolding keeps_table
  row_missing l = rw (le-ltb (place + 1 + j) (records bytes) l)

  pub row_vertex :
      place + 1 + j < records bytes → j < (fields_at bytes place).b
      → keeps_table bytes place j ≡ vertex_record (fields_at bytes place).b j (fields_at bytes (place + 1 + j))
  unfolding keeps_table
  row_vertex there l = rw (lt-ltb (place + 1 + j) (records bytes) there, lt-ltb j (fields_at bytes place).b l)

  pub row_edge :
      place + 1 + j < records bytes → (fields_at bytes place).b ≤ j
      → keeps_table bytes place j
      ≡ (edge_record (fields_at bytes place).b (fields_at bytes (place + 1 + j))
      && (eqb j (fields_at bytes place).b || rises (fields_at bytes (place + j)) (fields_at bytes (place + 1 + j))))
  unfolding keeps_table
  row_edge there l = rw (lt-ltb (place + 1 + j) (records bytes) there, le-ltb j (fields_at bytes place).b l)

  -- a record that keeps the table is there
  pub kept_there : keeps_table bytes place j ≡ true → place + 1 + j < records bytes
  kept_there h =
      elim (decided (ltb (place + 1 + j) (records bytes))) [
        | inl a ↦ ltb-true (place + 1 + j) (records bytes) a
        | inr b ↦ absurd (not_both (keeps_table bytes place j) h (row_missing (ltb-false (place + 1 + j) (records bytes) b)))
      ]

-- The task at a place

module _ (bytes : List ℕ) (place : ℕ) where
  abbrev vertices : ℕ
  vertices = (fields_at bytes place).b

  pub size_at : size (shape_at bytes place) ≡ vertices
  unfolding shape_at
  size_at = length_listed vertices (λ v. (fields_at bytes (place + 1 + v)).a)

  pub role_at : (v : ℕ) → v < vertices → role (shape_at bytes place) v ≡ (fields_at bytes (place + 1 + v)).a
  unfolding shape_at
  role_at v l = get_d_listed vertices (λ u. (fields_at bytes (place + 1 + u)).a) 0 v l

  pub mate_at_lem : (v : ℕ) → v < vertices → mate (shape_at bytes place) v ≡ (fields_at bytes (place + 1 + v)).b
  unfolding shape_at
  mate_at_lem v l = get_d_listed vertices (λ u. (fields_at bytes (place + 1 + u)).b) 0 v l

  -- beyond the task's vertices the role reads as plain
  role_beyond : (v : ℕ) → vertices ≤ v → role (shape_at bytes place) v ≡ 0
  unfolding shape_at
  role_beyond v l =
      let role_of : ℕ → ℕ = λ u. (fields_at bytes (place + 1 + u)).a in
      get_or-eq_default (listed vertices role_of) 0 {n = v} (rw (length_listed vertices role_of) l)

  -- the records behind the task record are all there and keep the table
  abbrev pub Rows : Type 0
  Rows = (j : ℕ) → j < behind bytes place → keeps_table bytes place j ≡ true

  vertex_kept : Rows → (v : ℕ) → v < vertices → vertex_record vertices v (fields_at bytes (place + 1 + v)) ≡ true
  unfolding behind
  vertex_kept k v l = let h = k v (omega arith) in sym (row_vertex bytes place v (kept_there bytes place v h) l) ∙ h

  pub edge_kept :
      Rows → (j : ℕ) → j < (fields_at bytes place).e
      → let r = fields_at bytes (place + 1 + vertices + j) in (r.c < r.d) × (r.d < vertices)
  unfolding behind
  edge_kept k j l =
      let i = vertices + j in
      let h = k i (omega arith) in
      let both = sym (row_edge bytes place i (kept_there bytes place i h) (omega arith)) ∙ h in
      let kept = and_left (edge_record vertices (fields_at bytes (place + 1 + i))) _ both in
      edge_record_lem vertices (fields_at bytes (place + 1 + vertices + j)) (rw (add_assoc (place + 1) vertices j) kept)

  pub most_kept : Rows → (v : ℕ) → v < vertices → role (shape_at bytes place) v ≤ 2
  most_kept k v l =
      let r = fields_at bytes (place + 1 + v) in
      rw (role_at v l) (role_most vertices v r.a r.b (vertex_record_lem vertices v r (vertex_kept k v l)).0)

  -- a vertex whose role is not plain is one of the task's, and its record speaks of its role and mate
  role_kept :
      Rows → (v c : ℕ) → role (shape_at bytes place) v ≡ suc c
      → role_and_mate vertices v (suc c) (mate (shape_at bytes place) v) ≡ true
  role_kept k v c e =
      elim (decided (ltb v vertices)) [
        | inl a ↦
            let l = ltb-true v vertices a in
            subst₂ (λ r m. role_and_mate vertices v r m ≡ true)
            (sym (role_at v l) ∙ e)
            (sym (mate_at_lem v l))
            (vertex_record_lem vertices v (fields_at bytes (place + 1 + v)) (vertex_kept k v l)).0
        | inr b ↦ absurd (omega (arith, role_beyond v (ltb-false v vertices b)))
      ]

  pub start_kept :
      Rows → (s : ℕ) → role (shape_at bytes place) s ≡ 1
      → (s < mate (shape_at bytes place) s) × (mate (shape_at bytes place) s < vertices)
  start_kept k s e = start_mate_lem vertices s (mate (shape_at bytes place) s) (role_kept k s 0 e)

  pub end_kept : Rows → (e : ℕ) → role (shape_at bytes place) e ≡ 2 → mate (shape_at bytes place) e < e
  end_kept k e h = end_mate_lem vertices e (mate (shape_at bytes place) e) (role_kept k e 1 h)

  -- edges lead upward, to one of the task's vertices
  pub edge_up : Rows → (u v : ℕ) → edge (shape_at bytes place) u v ≡ true → (u < v) × (v < vertices)
  unfolding shape_at edge
  edge_up k u v h =
      let P : Edge → Type 0 = λ e. (e.from < e.to) × (e.to < vertices) in
      let at : ℕ → Fields = λ j. fields_at bytes (place + 1 + vertices + j) in
      let edge_at : ℕ → Edge = λ j. record { from = (at j).c; to = (at j).d } in
      lists_edge_lem P (shape_at bytes place).edges u v (each_listed P (fields_at bytes place).e edge_at (edge_kept k)) h

  pub times_short : Rows → (v : ℕ) → time (task_at bytes place) v ≤ longest_job
  unfolding task_at
  times_short k v =
      let P : ℕ → Type 0 = λ x. x ≤ longest_job in
      let at : ℕ → Fields = λ u. fields_at bytes (place + 1 + u) in
      let all = each_listed P vertices (λ u. (at u).c) (λ u l. (vertex_record_lem vertices u (at u) (vertex_kept k u l)).1) in
      each_get_d P (task_at bytes place).times 0 all (omega arith) v

  -- the last record of the task is there, so all of them are
  pub all_there : task_record (fields_at bytes place) ≡ true → Rows → place + behind bytes place < records bytes
  unfolding behind
  all_there first k =
      let facts = task_record_lem (fields_at bytes place) first in
      let last = behind bytes place - 1 in
      omega (arith, kept_there bytes place last (k last (omega arith)))
