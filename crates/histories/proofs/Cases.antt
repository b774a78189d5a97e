-- Cases of these definitions, on the real bytes of document 01's sets: X's history that reaches the demand at 72, deadlines on the ends of
-- an interval, work and overruns between our ticks; and why number 8 is a condition.
use Prim.Native.Nat.{ℕ, ◌+◌, ◌*◌}
use mathlib.Core.Path.{◌≡◌, refl}
use mathlib.Core.Bool.{Bool, true, false}
use mathlib.Core.List.Memᴰ
use mathlib.Core.List.{List, [], ◌∷◌, map}
use native.Mathlib.Omega.{arith}
use Rattle.model.specs.Range.{only}
use Rattle.model.specs.Graph.{size, edge, arms, arm_first, in_arm}
use Rattle.model.specs.Realization.{Task, time, options, ways, present, endings, remaining, work, span, rdem, volume, len}
use Rattle.model.specs.Curve.{Curve, curve_of, part, demand}
use Rattle.model.specs.Records.{fields_at, behind, shape_at, task_at}
use Rattle.model.specs.Entries.{curves_at}
use Rattle.model.proofs.Ranges.{sum_zero, only_le}
use Rattle.model.proofs.Lists.{Each}
use Rattle.model.proofs.Sets.{set_X, set_Y, set_one_job, set_two_jobs_deadline_1}
use Rattle.histories.specs.History.{Release, History, begun, overlap, runs, counts, inside}
use Rattle.histories.specs.Worst.{WorstCase}
use Rattle.histories.specs.Grid.{finer_overruns}

abbrev X : Task
X = task_at set_X 0

abbrev Y : Task
Y = task_at set_Y 0

abbrev job : Task
job = task_at set_one_job 0

-- a job of 2 with deadline 1 and period 2
unfoldable pub late : Task
late =
    record { mill = 1; deadline = 1; period = 2; shape = record { roles = 0 ∷ []; mates = 0 ∷ []; edges = [] }; times = 2 ∷ [] }

abbrev two_jobs : List Curve
two_jobs = curves_at set_two_jobs_deadline_1 (0 ∷ 2 ∷ [])

-- by the arm with three jobs of 8
abbrev X_at : ℕ → Release
X_at tick = record { tick = tick; way = 0 ∷ 0 ∷ 0 ∷ 0 ∷ 0 ∷ 0 ∷ 0 ∷ 0 ∷ 0 ∷ 0 ∷ 0 ∷ [] }

abbrev job_at : ℕ → Release
job_at tick = record { tick = tick; way = 0 ∷ [] }

-- four releases a period apart
abbrev worst_X : List Release
worst_X = X_at 12 ∷ X_at 32 ∷ X_at 52 ∷ X_at 72 ∷ []

pub X_history : History 1 X worst_X
unfolding set_X task_at shape_at fields_at behind ways options arms edge
X_history = (
  Memᴰ.head refl,
  omega arith,
  (Memᴰ.head refl, omega arith, (Memᴰ.head refl, omega arith, (Memᴰ.head refl, tt, tt))),
)

-- A row: what the definitions give, and what they are to give.
abbrev pub Row : Type 0
Row = List ℕ × List ℕ

abbrev pub table : List Row
table =
    -- 93 = 18 + 25 + 25 + 25, in the interval from 15 to 87, the deadline of the last
    (map (runs X 1 15 72) worst_X, 18 ∷ 25 ∷ 25 ∷ 25 ∷ [])
    ∷ (inside 1 1 X 15 72 worst_X ∷ demand 1 1 (curve_of X) 72 ∷ [], 93 ∷ 93 ∷ [])
    -- by each of X's two ways: what is left of it at the ages 3 and 6
    ∷ (map (λ w. remaining X 1 w 3) (ways X.shape), 18 ∷ 16 ∷ [])
    ∷ (map (λ w. remaining X 1 w 6) (ways X.shape), 9 ∷ 10 ∷ [])
    -- X at 12 has its deadline at 27: all of it counts where the interval ends there, nothing where it ends before, nothing is left
    -- where it begins there
    ∷ (inside 1 1 X 12 15 (X_at 12 ∷ []) ∷ inside 1 1 X 12 14 (X_at 12 ∷ []) ∷ inside 1 1 X 27 9 (X_at 12 ∷ []) ∷ [], 25 ∷ 0 ∷ 0 ∷ [])
    -- what X runs after the interval is outside as well, whether it counts or not
    ∷ (runs X 1 12 5 (X_at 12) ∷ [], 13 ∷ [])
    -- the demand of the 32-byte set at 1 is that of a release whose deadline is the interval's end
    ∷ (inside 1 1 job 1 1 (job_at 1 ∷ []) ∷ demand 1 1 (curve_of job) 1 ∷ [], 1 ∷ 1 ∷ [])
    -- Y has 3 units left at tick 1 and 1 at tick 2; half way it has three halves, not the four of the chord
    ∷ (rdem Y 1 1 ∷ rdem Y 1 2 ∷ rdem Y 2 3 ∷ [], 3 ∷ 1 ∷ 3 ∷ [])
    -- two jobs of 1 with deadline 1 overrun one processor at the first tick of each grid
    ∷ (map (λ n. only (finer_overruns n 1 1 1 two_jobs 1) n) (1 ∷ 2 ∷ 3 ∷ []), 1 ∷ 2 ∷ 3 ∷ [])
    -- what the rule would ask of a task that number 8 does not spare
    ∷ (map (demand 1 1 (curve_of late)) (0 ∷ 1 ∷ 2 ∷ 3 ∷ []), 1 ∷ 2 ∷ 3 ∷ 4 ∷ [])
    ∷ []

pub computed : Each (λ (row : Row). row.0 ≡ row.1) table
unfolding late set_X set_Y set_one_job set_two_jobs_deadline_1 task_at shape_at fields_at behind ways options arms arm_first in_arm edge present endings begun runs counts remaining work span rdem volume len curve_of part demand finer_overruns
computed = (refl, (refl, (refl, (refl, (refl, (refl, (refl, (refl, (refl, (refl, tt))))))))))

-- Number 8 is a condition: that job would ask 1 of an interval of no ticks, in which nothing runs.

runs_nothing : (t : Task) (q a : ℕ) (r : Release) → runs t q a 0 r ≡ 0
unfolding runs
runs_nothing t q a r =
    sum_zero (size t.shape) _ (λ v lt.
    empty (present t.shape r.way v) (r.tick + begun t q r.way v) (q * time t v))
  where
    empty : (b : Bool) (s c : ℕ) → only b (overlap s (s + c) a (a + 0)) ≡ 0
    empty true s c = omega arith
    empty false s c = refl

inside_nothing : (p q : ℕ) (t : Task) (a : ℕ) (rs : List Release) → inside p q t a 0 rs ≡ 0
inside_nothing p q t a [] = refl
inside_nothing p q t a (r ∷ rs) =
    omega (arith, only_le (counts p t a 0 r) (runs t q a 0 r), runs_nothing t q a r, inside_nothing p q t a rs)

pub eight_needed : WorstCase 1 1 late 0 (demand 1 1 (curve_of late) 0) → ⊥
unfolding late ways options arms arm_first in_arm edge present endings remaining work span rdem volume len curve_of part demand
eight_needed worst =
    let r = worst.reached in
    absurd (omega (arith, r.2, inside_nothing 1 1 late r.0.begins r.0.releases))
