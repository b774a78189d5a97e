-- Relief, as demand 3 speaks of it: jobs shortened, deadlines or periods lengthened, tasks dropped, all at once.
use Rattle.std.specs.Prelude.{ℕ, ◌≤◌, ◌≡◌, true, List, [], ◌∷◌}
use Rattle.model.specs.Limits.{most_processors, most_cycle}
use Rattle.model.specs.Realization.{Task, time}
use Rattle.model.specs.Curve.{common_cycle}
use Rattle.model.specs.Speeds.{speed_fits}
use Rattle.model.specs.Records.{tasks_at, reading}
use Rattle.model.specs.Entries.{tasks_of, curves_at}

-- the same graph, no job longer, deadline and period no shorter
pub record Easier (old new : Task) : Type 0 where
  pub shape : new.shape ≡ old.shape
  pub times : (v : ℕ) → time new v ≤ time old v
  pub deadline : old.deadline ≤ new.deadline
  pub period : old.period ≤ new.period

-- each task is dropped, or kept and made no harder
pub data Relieved : List Task → List Task → Type 0 where
  nothing : Relieved [] []
  dropped : {t : Task} {old new : List Task} → Relieved old new → Relieved (t ∷ old) new
  kept : {t u : Task} {old new : List Task} → Easier t u → Relieved old new → Relieved (t ∷ old) (u ∷ new)

-- Two readable sets and two calls "at one p and q": the second set is the first relieved, on no fewer processors, and its common
-- cycle is within the limit.
pub record Relief (old new : List ℕ) (m n p q : ℕ) : Type 0 where
  pub old_places : List ℕ
  pub new_places : List ℕ
  pub old_read : reading old ≡ tasks_at old_places
  pub new_read : reading new ≡ tasks_at new_places
  pub relieved : Relieved (tasks_of old old_places) (tasks_of new new_places)
  pub processors : m ≤ n
  pub most : n ≤ most_processors
  pub speed : speed_fits p q ≡ true
  pub short : common_cycle (curves_at new new_places) ≤ most_cycle
