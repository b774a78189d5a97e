-- What reading a set tells of each of its tasks.
use Prim.Native.Nat.{ℕ, ◌≤◌}
use Rattle.model.specs.Limits.{most_vertices, longest_job, longest_period}
use Rattle.model.specs.Graph.{size}
use Rattle.model.specs.Realization.{Task, time}
use Rattle.model.proofs.Arms.{Drawn}

pub record Readable (t : Task) : Type 0 where
  pub drawn : Drawn t.shape
  pub small : size t.shape ≤ most_vertices
  pub short : (v : ℕ) → time t v ≤ longest_job
  pub deadline_low : 1 ≤ t.deadline
  pub deadline_high : t.deadline ≤ t.period
  pub period_high : t.period ≤ longest_period
