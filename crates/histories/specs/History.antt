-- Histories of a task: when it is released, which way each release takes, and what its jobs run inside an interval.
use Rattle.std.specs.Prelude.{ℕ, ◌+◌, ◌-◌, ◌*◌, ◌≤◌, min, max, Bool, ◌&&◌, leb, get_or}
use mathlib.Core.List.{List, [], ◌∷◌, Memᴰ}
use Rattle.model.specs.Range.{sum, most, only}
use Rattle.model.specs.Graph.{size}
use Rattle.model.specs.Realization.{Task, time, Way, ways, present, waits_for, endings}

-- a whole tick, and "any realization at each release": the way that its choices fall
pub record Release : Type 0 where
  pub tick : ℕ
  pub way : Way

-- the next release, if there is one, comes at tick k or later
abbrev pub NextFrom : ℕ → List Release → Type 0
NextFrom k [] = Unit {0}
NextFrom k (r ∷ rs) = k ≤ r.tick

-- "any whole-tick release times at least a period apart": releases in order, each by a way through the task's choices
abbrev pub History : ℕ → Task → List Release → Type 0
History p t [] = Unit {0}
History p t (r ∷ rs) =
    Memᴰ r.way (ways t.shape) × NextFrom (r.tick + p * t.period) rs × History p t rs

-- "With no limit on processors": a vertex starts "when its last present predecessor ends", in ticks from the release
unfoldable pub begun : Task → ℕ → Way → ℕ → ℕ
begun t q w v = most v (λ u. only (waits_for t.shape w u v) (get_or (endings t q w) u 0))

-- how many ticks the interval from s to e has in common with the one from a to b
abbrev pub overlap : ℕ → ℕ → ℕ → ℕ → ℕ
overlap s e a b = min e b - max s a

-- "the work run inside" the interval [a, a + x] by a release: over its present vertices, what their running has in common with it
unfoldable pub runs : Task → ℕ → ℕ → ℕ → Release → ℕ
runs t q a x r =
    sum (size t.shape) (λ v.
    let start = r.tick + begun t q r.way v in
    only (present t.shape r.way v) (overlap start (start + q * time t v) a (a + x)))

-- "releases whose deadlines lie inside": a deadline on either end of the interval lies inside
unfoldable pub counts : ℕ → Task → ℕ → ℕ → Release → Bool
counts p t a x r =
    let deadline = r.tick + p * t.deadline in
    leb a deadline && leb deadline (a + x)

-- the work that the releases that count run inside
abbrev pub inside : ℕ → ℕ → Task → ℕ → ℕ → List Release → ℕ
inside p q t a x [] = 0
inside p q t a x (r ∷ rs) = only (counts p t a x r) (runs t q a x r) + inside p q t a x rs
