-- How the places of the tasks stand in memory. One need not believe it to believe what `read` gives.
use Rattle.std.specs.Prelude.{ℕ, ◌-◌, ◌≤◌, ◌≡◌, List, ◌++◌, length, take, replicate}
use Rattle.model.specs.Limits.{most_tasks}

-- these places, and zeros behind them up to as many as a set may have tasks
abbrev pub filled : List ℕ → List ℕ
filled places = places ++ replicate (most_tasks - length places) 0

-- `count` places, in front of zeros
pub record InFront (count : ℕ) (places : List ℕ) : Type 0 where
  pub few : count ≤ most_tasks
  pub counted : length (take count places) ≡ count
  pub zeros : filled (take count places) ≡ places
