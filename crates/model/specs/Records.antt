-- Set records: the reading of any bytes, to the places of the tasks or to a refusal.
use Rattle.std.specs.Prelude.{ℕ, zero, suc, ◌+◌, ◌*◌, ◌/◌, ◌%◌, Bool, cond, not, ◌&&◌, ◌||◌, List, [], ◌∷◌, ◌++◌, leb, ltb, eqb, length, get_or}
use Rattle.model.specs.Limits.{most_mills, most_tasks, most_vertices, most_edges, longest_job, longest_period}
use Rattle.model.specs.Range.{least, listed}
use Rattle.model.specs.Graph.{Shape, keeps_rules}
use Rattle.model.specs.Realization.{Task}

-- "Records of 16 bytes, no header"
abbrev pub records : List ℕ → ℕ
records bytes = length bytes / 16

-- "little-endian": the number of k bytes, from byte i
abbrev pub little : List ℕ → ℕ → ℕ → ℕ
little bytes i zero = 0
little bytes i (suc k) = get_or bytes i 0 + 256 * little bytes (suc i) k

-- "Byte 0 is the kind, byte 1 is A, bytes 2-3 are B, 4-7 C, 8-11 D, 12-15 E."
pub record Fields : Type 0 where
  pub kind : ℕ
  pub a : ℕ
  pub b : ℕ
  pub c : ℕ
  pub d : ℕ
  pub e : ℕ

-- record i, "counted from 0"
unfoldable pub fields_at : List ℕ → ℕ → Fields
fields_at bytes i =
    record {
      kind = little bytes (16 * i) 1;
      a = little bytes (16 * i + 1) 1;
      b = little bytes (16 * i + 2) 2;
      c = little bytes (16 * i + 4) 4;
      d = little bytes (16 * i + 8) 4;
      e = little bytes (16 * i + 12) 4;
    }

-- "1 task | mill 1..40 | vertices n, 1..64 | deadline 1..period | period 1..10,000 | edges 0..256"
unfoldable pub task_record : Fields → Bool
task_record r =
    eqb r.kind 1
    && leb 1 r.a && leb r.a most_mills
    && leb 1 r.b && leb r.b most_vertices
    && leb 1 r.c && leb r.c r.d
    && leb 1 r.d && leb r.d longest_period
    && leb r.e most_edges

-- "Role 0 is plain, with mate 0. Role 1 starts a choice; its mate is above its own number and below n. Role 2 ends one; its mate
-- is below its own number."
unfoldable pub role_and_mate : ℕ → ℕ → ℕ → ℕ → Bool
role_and_mate n v r m =
    eqb r 0 && eqb m 0
    || eqb r 1 && ltb v m && ltb m n
    || eqb r 2 && ltb m v

-- "2 vertex | role 0..2 | mate | job time 0..1,000 | 0 | 0", the job time with request 2's upper end: vertex v of n
unfoldable pub vertex_record : ℕ → ℕ → Fields → Bool
vertex_record n v r =
    eqb r.kind 2 && role_and_mate n v r.a r.b && leb r.c longest_job && eqb r.d 0 && eqb r.e 0

-- "3 edge | 0 | 0 | from | to | 0"; "An edge has from < to < n."
unfoldable pub edge_record : ℕ → Fields → Bool
edge_record n r =
    eqb r.kind 3 && eqb r.a 0 && eqb r.b 0 && ltb r.c r.d && ltb r.d n && eqb r.e 0

-- "Edges stand in strictly rising order of (from, to)."
unfoldable pub rises : Fields → Fields → Bool
rises r s = ltb r.c s.c || eqb r.c s.c && ltb r.d s.d

-- Record j behind the task record at `place` is there and keeps the table: "a task record, then all its vertex records, then
-- all its edge records".
unfoldable pub keeps_table : List ℕ → ℕ → ℕ → Bool
keeps_table bytes place j =
    let n = (fields_at bytes place).b in
    let here = fields_at bytes (place + 1 + j) in
    let vertex = vertex_record n j here in
    let edge = edge_record n here && (eqb j n || rises (fields_at bytes (place + j)) here) in
    ltb (place + 1 + j) (records bytes) && cond (ltb j n) vertex edge

-- how many records stand behind a task record
unfoldable pub behind : List ℕ → ℕ → ℕ
behind bytes place = (fields_at bytes place).b + (fields_at bytes place).e

-- the graph at a place
unfoldable pub shape_at : List ℕ → ℕ → Shape
shape_at bytes place =
    let n = (fields_at bytes place).b in
    record {
      roles = listed n (λ v. (fields_at bytes (place + 1 + v)).a);
      mates = listed n (λ v. (fields_at bytes (place + 1 + v)).b);
      edges = listed (fields_at bytes place).e (λ j.
          record { from = (fields_at bytes (place + 1 + n + j)).c; to = (fields_at bytes (place + 1 + n + j)).d });
    }

-- the task at a place
unfoldable pub task_at : List ℕ → ℕ → Task
task_at bytes place =
    record {
      mill = (fields_at bytes place).a;
      deadline = (fields_at bytes place).c;
      period = (fields_at bytes place).d;
      shape = shape_at bytes place;
      times = listed (fields_at bytes place).b (λ v. (fields_at bytes (place + 1 + v)).c);
    }

-- What reading finds: the places of the tasks, which are the numbers of their task records, or a refusal's number and place.
pub data Reading : Type 0 where
  tasks_at : List ℕ → Reading
  refused : (number place : ℕ) → Reading

-- "records from the left": the first refusal stands
abbrev pub then_read : Reading → Reading → Reading
then_read (refused number place) rest = refused number place
then_read (tasks_at ps) (refused number place) = refused number place
then_read (tasks_at ps) (tasks_at qs) = tasks_at (ps ++ qs)

-- "3: a record breaks the table above, or one is missing at the end | its record number"; "4: a graph rule is broken | the task
-- record's number"; "A task's graph is judged after its last record, before the next record is looked at."
unfoldable pub read_task : List ℕ → ℕ → Reading
read_task bytes place =
    let bad = least (behind bytes place) (λ j. not (keeps_table bytes place j)) in
    let judged = cond (keeps_rules (shape_at bytes place)) (tasks_at (place ∷ [])) (refused 4 place) in
    let inside = cond (ltb bad (behind bytes place)) (refused 3 (place + 1 + bad)) judged in
    cond (task_record (fields_at bytes place)) inside (refused 3 place)

-- The tasks from `place` on, of which `left` more are allowed. "Where a 33rd task is due and the record has kind 1, 5 comes
-- before 3."
abbrev pub read_from : List ℕ → ℕ → ℕ → Reading
read_from bytes zero place =
    let over = cond (eqb (fields_at bytes place).kind 1) (refused 5 place) (refused 3 place) in
    cond (ltb place (records bytes)) over (tasks_at [])
read_from bytes (suc left) place =
    let later = read_from bytes left (place + 1 + behind bytes place) in
    let here = then_read (read_task bytes place) later in
    cond (ltb place (records bytes)) here (tasks_at [])

-- "A set is zero or more tasks."; "2: byte length not a multiple of 16"
unfoldable pub reading : List ℕ → Reading
reading bytes =
    let whole = read_from bytes most_tasks 0 in
    cond (eqb (length bytes % 16) 0) whole (refused 2 0)
