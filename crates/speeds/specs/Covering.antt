-- The speeds that cover a rack and its tasks.
use Rattle.std.specs.Prelude.{ℕ, ◌-◌, ◌*◌, ◌≤◌, ◌<◌, List, length, get_or}
use Rattle.model.specs.Limits.{most_tasks, longest_period, largest_volume}
use Rattle.model.specs.Curve.{Curve}
use Rattle.curve.specs.Charts.{no_curve}
use Rattle.demand.specs.Rows.{Timely}

-- at most as many tasks as a set may have, each with a deadline, and deadline and length within their limits
abbrev pub Dated : List Curve → Type 0
Dated cs =
    (length cs ≤ most_tasks)
    × ((i : ℕ) → i < length cs
    → ((get_or cs i no_curve).deadline ≤ longest_period) × ((get_or cs i no_curve).length ≤ largest_volume) × (1 ≤ (get_or cs i no_curve).deadline))

-- "at least m/(2m-1) and at least every task's length/deadline"
abbrev pub Covers : ℕ → List Curve → ℕ → ℕ → Type 0
Covers m cs p q = (m * q ≤ p * (2 * m - 1)) × Timely cs (record { p = p; q = q })
