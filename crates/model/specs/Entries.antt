-- The whole answers of the four entries, for any bytes and numbers.
use Rattle.std.specs.Prelude.{ℕ, ◌*◌, ◌≤◌, ◌<◌, ◌≡◌, Bool, true, false, cond, ◌&&◌, ◌||◌, List, ◌++◌, map, leb, ltb, length, get_or, drop}
use Rattle.model.specs.Limits.{most_cycle, most_tick}
use Rattle.model.specs.Realization.{Task, len, volume}
use Rattle.model.specs.Curve.{Curve, curve_of, fits, demand, FirstDense, Outcome, accepted, dense, overrun, Verdict, common_cycle}
use Rattle.model.specs.Speeds.{speed_fits, rack_fits, unnamed, SpeedUsed}
use Rattle.model.specs.Layers.{Layer, layers, as_words}
use Rattle.model.specs.Records.{Reading, tasks_at, refused, reading, task_at}

-- "1: m outside 1..16, a speed that breaks 1 <= p <= q <= 31 (0/0 is allowed to judge only), or x > 1,550,000"
abbrev pub judge_takes : ℕ → ℕ → ℕ → Bool
judge_takes m p q = rack_fits m && (unnamed p q || speed_fits p q)

-- the tasks at a list of places, and their curves
abbrev pub tasks_of : List ℕ → List ℕ → List Task
tasks_of bytes ps = map (task_at bytes) ps

abbrev pub curves_at : List ℕ → List ℕ → List Curve
curves_at bytes ps = map curve_of (tasks_of bytes ps)

-- number, place, x and W, and the speed used
pub record Answer : Type 0 where
  pub number : ℕ
  pub place : ℕ
  pub x : ℕ
  pub w : ℕ
  pub p : ℕ
  pub q : ℕ

-- "All other answer fields are 0 on refusal."
abbrev pub refusal : ℕ → ℕ → Answer
refusal number place = record { number = number; place = place; x = 0; w = 0; p = 0; q = 0 }

-- What a call finds of tasks whose common cycle is within the limit, and the speed that it uses: the verdict at that speed, but with
-- 0/0 "number 8 now names the first task whose length exceeds its deadline, if any". Then there is no default speed, and none is used.
pub data Finds (m p q : ℕ) (cs : List Curve) : Outcome → ℕ → ℕ → Type 0 where
  at_speed : (o : Outcome) (a b : ℕ) → SpeedUsed m p q cs a b → Verdict m a b cs o → Finds m p q cs o a b
  exceeds : (i : ℕ) → unnamed p q ≡ true → FirstDense 1 1 cs i → Finds m p q cs (dense i) 0 0

-- "8: q·length > p·deadline (judge: first such task) | the task record's number"; "Number 9 also gives the smallest overrunning x
-- and W(x). On acceptance judge's x and W are 0."; "The answer gains the speed used with 0 and 9, else 0/0."
abbrev pub answer_of : List ℕ → Outcome → ℕ → ℕ → Answer
answer_of ps accepted p q = record { number = 0; place = 0; x = 0; w = 0; p = p; q = q }
answer_of ps (dense i) p q = refusal 8 (get_or ps i 0)
answer_of ps (overrun x w) p q = record { number = 9; place = 0; x = x; w = w; p = p; q = q }

-- Judge: "Order: 1, 2, then records from the left .. Then 6, 7, 8, 9"; "7: H > 50,000 (judge)"
pub data Judged (bytes : List ℕ) (m p q : ℕ) : Answer → Type 0 where
  bad_call : judge_takes m p q ≡ false → Judged bytes m p q (refusal 1 0)
  unread :
      (number place : ℕ) → judge_takes m p q ≡ true → reading bytes ≡ refused number place
      → Judged bytes m p q (refusal number place)
  long_cycle :
      (ps : List ℕ) → judge_takes m p q ≡ true → reading bytes ≡ tasks_at ps → most_cycle < common_cycle (curves_at bytes ps)
      → Judged bytes m p q (refusal 7 0)
  judged :
      (ps : List ℕ) (o : Outcome) (a b : ℕ) → judge_takes m p q ≡ true → reading bytes ≡ tasks_at ps
      → common_cycle (curves_at bytes ps) ≤ most_cycle → Finds m p q (curves_at bytes ps) o a b
      → Judged bytes m p q (answer_of ps o a b)

-- The task that figures, demand and layers ask for: its place, or the refusal that comes before it.
pub data Asked : Type 0 where
  task_is : (place : ℕ) → Asked
  no_task : (number place : ℕ) → Asked

-- "6: no task of that number"; task numbers count "from 0"
abbrev pub asked : Reading → ℕ → Asked
asked (refused number place) i = no_task number place
asked (tasks_at ps) i = cond (ltb i (length ps)) (task_is (get_or ps i 0)) (no_task 6 0)

-- Figures gives "length and volume".
pub record Figures : Type 0 where
  pub number : ℕ
  pub place : ℕ
  pub length : ℕ
  pub volume : ℕ

unfoldable pub figures_for : List ℕ → Asked → Figures
figures_for bytes (no_task number place) = record { number = number; place = place; length = 0; volume = 0 }
figures_for bytes (task_is place) =
    record { number = 0; place = 0; length = len (task_at bytes place); volume = volume (task_at bytes place) }

-- Figures "takes a set and a task number"
unfoldable pub figures : List ℕ → ℕ → Figures
figures bytes i = figures_for bytes (asked (reading bytes) i)

-- Demand gives the demand of the task at x.
pub record Demanded : Type 0 where
  pub number : ℕ
  pub place : ℕ
  pub work : ℕ

abbrev pub no_demand : ℕ → ℕ → Demanded
no_demand number place = record { number = number; place = place; work = 0 }

-- "8: q·length > p·deadline (demand: the task asked) | the task record's number"
unfoldable pub demanded_for : List ℕ → Asked → ℕ → ℕ → ℕ → Demanded
demanded_for bytes (no_task number place) p q x = no_demand number place
demanded_for bytes (task_is place) p q x =
    let c = curve_of (task_at bytes place) in
    let found : Demanded = record { number = 0; place = 0; work = demand p q c x } in
    cond (fits p q c) found (no_demand 8 place)

-- Demand "adds p, q, x"
unfoldable pub demanded : List ℕ → ℕ → ℕ → ℕ → ℕ → Demanded
demanded bytes i p q x =
    let answer = demanded_for bytes (asked (reading bytes) i) p q x in
    cond (speed_fits p q && leb x most_tick) answer (no_demand 1 0)

-- Layers gives the count of its pairs, and leaves the table as it then stands.
pub record Layered : Type 0 where
  pub number : ℕ
  pub place : ℕ
  pub pairs : ℕ
  pub table : List ℕ

-- "a refusal changes no word"
abbrev pub no_layers : ℕ → ℕ → List ℕ → Layered
no_layers number place table = record { number = number; place = place; pairs = 0; table = table }

-- "10: twice the number of pairs exceeds the lent table"; "Layers writes pairs at the front of its table and gives their count;
-- the words after them stay"
abbrev pub written : List Layer → List ℕ → Layered
written ls table =
    let full : Layered =
    record { number = 0; place = 0; pairs = length ls; table = as_words ls ++ drop (2 * length ls) table } in
    cond (leb (2 * length ls) (length table)) full (no_layers 10 0 table)

unfoldable pub layered_for : List ℕ → Asked → ℕ → List ℕ → Layered
layered_for bytes (no_task number place) q table = no_layers number place table
layered_for bytes (task_is place) q table = written (layers (curve_of (task_at bytes place)) q) table

-- Layers "adds p, q and a lent table of 32-bit numbers"
unfoldable pub layered : List ℕ → ℕ → ℕ → ℕ → List ℕ → Layered
layered bytes i p q table =
    let answer = layered_for bytes (asked (reading bytes) i) q table in
    cond (speed_fits p q) answer (no_layers 1 0 table)
