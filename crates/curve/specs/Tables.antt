-- The work that remains of jobs by vertex, with the two arms of every choice as words, and the curve that they make with figures.
use Rattle.std.specs.Prelude.{ℕ, zero, suc, ◌+◌, ◌-◌, ◌*◌, min, max, Bool, cond, not, ◌&&◌, List, [], get_or}
use Rattle.model.specs.Limits.{most_vertices}
use Rattle.model.specs.Curve.{Curve}
use Rattle.vertices.specs.Members.{has}
use Rattle.curve.specs.declared.chart.Figures.{Figures}
use Rattle.curve.specs.declared.chart.Jobs.{Jobs}

-- what a job of the given time, which ends at the latest by `due`, still has to run at tick x
unfoldable pub job_left : ℕ → ℕ → ℕ → ℕ → ℕ
job_left q x time due = min (q * time) (q * due - x)

-- the same for vertex v of two tables
abbrev pub jobs_left : List ℕ → List ℕ → ℕ → ℕ → ℕ → ℕ
jobs_left times ends q x v = job_left q x (get_or times v 0) (get_or ends v 0)

-- arm i of the choice that starts at v, no vertex where none does
abbrev pub arm_of : List (List ℕ) → ℕ → ℕ → ℕ
arm_of arms v i = get_or (get_or arms v []) i 0

-- a set without the arms of v
abbrev pub outside : List (List ℕ) → ℕ → (ℕ → Bool) → ℕ → Bool
outside arms v set u = set u && not (has (arm_of arms v 0) u) && not (has (arm_of arms v 1) u)

-- The walk over the last `left` of 64 vertices, upward: nothing outside the set; inside it the weight of the vertex, the larger of
-- the walks in its two arms, and the walk over the rest without them.
unfoldable pub word_walk : List (List ℕ) → (ℕ → ℕ) → ℕ → (ℕ → Bool) → ℕ
word_walk arms f zero set = 0
word_walk arms f (suc left) set =
    let v = most_vertices - suc left in
    let rest = word_walk arms f left set in
    let larger = max (word_walk arms f left (has (arm_of arms v 0))) (word_walk arms f left (has (arm_of arms v 1))) in
    let here = f v + larger + word_walk arms f left (outside arms v set) in
    cond (set v) here rest

-- the walk over a word
unfoldable pub arm_sum : List (List ℕ) → (ℕ → ℕ) → ℕ → ℕ
arm_sum arms f set = word_walk arms f most_vertices (has set)

-- the work that remains in a set of vertices at tick x
abbrev pub work_left : Jobs → ℕ → ℕ → ℕ → ℕ
work_left jobs q set x = arm_sum jobs.arms (jobs_left jobs.times jobs.ends q x) set

-- the curve that figures and jobs make
unfoldable pub table_curve : Figures → Jobs → Curve
table_curve f jobs =
    record {
      deadline = f.deadline.0;
      period = f.period.0;
      length = f.length.0;
      volume = f.volume.0;
      remains = λ q x. work_left jobs q f.vertices x;
    }
