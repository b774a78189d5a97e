-- What the jobs tell of a task.
use Rattle.std.specs.Prelude.{ℕ, ◌≡◌, List, get_or}
use Rattle.model.specs.Graph.{size, edge}
use Rattle.model.specs.Realization.{Task, time, finish}

-- the job time of each vertex
abbrev pub TimesOf : Task → List ℕ → Type 0
TimesOf t times = (v : ℕ) → get_or times v 0 ≡ time t v

-- the end of each vertex, in time units, if every vertex that it waits for were present
abbrev pub EndsOf : Task → List ℕ → Type 0
EndsOf t ends = (v : ℕ) → get_or ends v 0 ≡ get_or (finish (edge t.shape) (time t) (size t.shape)) v 0
