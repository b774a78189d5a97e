-- `search::forward::first_from` meets its contract. The loop's invariant: w is W at x, nothing before x overruns, and from x on the
-- demand of each task is a line up to its mark. The measure is what is left up to the end.
use Prim.Native.Nat.{ℕ, ◌-◌, ◌≤◌, ◌<◌}
use mathlib.Core.Path.{◌≡◌}
use mathlib.Core.Bool.{false}
use Rattle.units.specs.Rack.{total_at, overruns_on}
use Rattle.curve.specs.Charts.{curves}
use Rattle.slopes.specs.Searches.{Same}
use Rattle.search.specs.Marks.{Marked}
use Rattle.search.proofs.forward.first_from.Given as goal

abbrev pub invariant-loop-x : goal.invariant-loop-x
invariant-loop-x l =
    let load = l.fn.search.load.now in
    let cs = curves load.tasks.now in
    (l.x ≤ l.end.0) × (l.w ≡ total_at load.rack.speed cs l.x) × ((y : ℕ) → y < l.x → overruns_on load.rack cs y ≡ false)
    × Marked cs load.rack.speed l.x 0 l.marks
    × Same l.fn.search l.search

abbrev pub decreases-loop-x : goal.decreases-loop-x
decreases-loop-x l =
    l.end.0 - l.x
