-- `curve::jobs::latest_ends` meets its contract. The loop's invariant: the ends of the vertices below v are known, and the others are 0.
use Prim.Native.Nat.{ℕ}
use mathlib.Core.Bool.{Bool}
use mathlib.Core.List.{List}
use lib.ListN.{get_or}
use Rattle.model.specs.Limits.{most_vertices}
use Rattle.vertices.specs.Members.{has}
use Rattle.curve.proofs.LatestEnds.{Ended}
use Rattle.curve.proofs.jobs.latest_ends.Given as goal

-- w waits for u
abbrev pub waits : List ℕ → ℕ → ℕ → Bool
waits into u w = has (get_or into w 0) u

abbrev pub time : List ℕ → ℕ → ℕ
time times u = get_or times u 0

abbrev pub invariant-loop-v : goal.invariant-loop-v
invariant-loop-v l =
    Ended most_vertices (waits l.into) (time l.times) l.v l.ends
