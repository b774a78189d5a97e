-- The marks of tasks: from a tick on, each task's demand is a line up to its mark.
use Rattle.std.specs.Prelude.{ℕ, ◌+◌, ◌*◌, ◌≤◌, ◌<◌, min, ◌≡◌, List, [], ◌∷◌, length, get_or, sum_by}
use Rattle.model.specs.Limits.{most_tasks}
use Rattle.model.specs.Curve.{Curve}
use Rattle.units.specs.declared.Speed.{Speed}
use Rattle.units.specs.Rack.{demand_at}
use Rattle.curve.specs.Charts.{no_curve}
use Rattle.search.specs.declared.marks.Mark.{Mark}

-- the mark of task i, none where there is no such task
abbrev pub mark_at : List Mark → ℕ → Mark
mark_at marks i = get_or marks i (record { at = 0; slope = 0 })

-- marks for as many tasks as there may be: the demand of each task is a line from tick x to its mark, which is at least `ahead` ticks on
pub record Marked (cs : List Curve) (speed : Speed) (x ahead : ℕ) (marks : List Mark) : Type 0 where
  pub wide : length marks ≡ most_tasks
  pub on : (i : ℕ) → i < length cs → x + ahead ≤ (mark_at marks i).at
  pub line :
      (i : ℕ) → i < length cs → (j : ℕ) → x + j ≤ (mark_at marks i).at
      → demand_at speed (get_or cs i no_curve) (x + j) ≡ demand_at speed (get_or cs i no_curve) x + (mark_at marks i).slope * j

-- the nearest of the marks and the end
abbrev pub nearest : List Mark → ℕ → ℕ
nearest [] end = end
nearest (mark ∷ marks) end = nearest marks (min end mark.at)

-- the sum of the slopes
abbrev pub steepness : List Mark → ℕ
steepness = sum_by (λ mark. mark.slope)
