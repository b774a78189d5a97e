-- What judge's answers say: demand 2's acceptance, and its "otherwise", to be read over an answer alone.
use Rattle.std.specs.Prelude.{ℕ, ◌*◌, ◌≤◌, ◌<◌, ◌≡◌, true, false, List, get_or}
use Rattle.model.specs.Curve.{Curve, AllFit, FirstDense, overruns, total, common_cycle}
use Rattle.model.specs.Speeds.{unnamed, SpeedUsed}
use Rattle.model.specs.Records.{tasks_at, reading}
use Rattle.model.specs.Entries.{Answer, curves_at}

-- At the speed used every task fits its deadline, and no x at all overruns: the tasks may share the rack.
abbrev pub MayShare : ℕ → ℕ → ℕ → List Curve → Type 0
MayShare m p q cs =
    (a : ℕ) × (b : ℕ) × SpeedUsed m p q cs a b × (AllFit a b cs × ((x : ℕ) → overruns m a b cs x ≡ false))

-- The place of an answer is that of the "first such task": its length is too long for its deadline at the speed named; with 0/0 it is
-- "the first task whose length exceeds its deadline".
pub record Dense (bytes : List ℕ) (p q : ℕ) (a : Answer) : Type 0 where
  pub places : List ℕ
  pub task : ℕ
  pub read : reading bytes ≡ tasks_at places
  pub named : unnamed p q ≡ false → FirstDense p q (curves_at bytes places) task
  pub default : unnamed p q ≡ true → FirstDense 1 1 (curves_at bytes places) task
  pub place : a.place ≡ get_or places task 0

-- At the speed that an answer names its x overruns, no smaller one does, its w is W(x), and x lies within one common cycle.
pub record Overrun (bytes : List ℕ) (m p q : ℕ) (a : Answer) : Type 0 where
  pub places : List ℕ
  pub read : reading bytes ≡ tasks_at places
  pub used : SpeedUsed m p q (curves_at bytes places) a.p a.q
  pub over : overruns m a.p a.q (curves_at bytes places) a.x ≡ true
  pub before : (y : ℕ) → y < a.x → overruns m a.p a.q (curves_at bytes places) y ≡ false
  pub work : a.w ≡ total a.p a.q (curves_at bytes places) a.x
  pub within : a.x ≤ a.p * common_cycle (curves_at bytes places)
