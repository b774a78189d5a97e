-- `search::first_up_to` meets its contract. The loop's invariant: nothing below `fine` overruns, and `over` does. The measure is what
-- lies between them.
use Prim.Native.Nat.{ℕ, ◌+◌, ◌-◌, ◌*◌, ◌≤◌, ◌<◌}
use mathlib.Core.Path.{◌≡◌}
use mathlib.Core.Bool.{true, false}
use Rattle.units.specs.Rack.{overruns_on}
use Rattle.curve.specs.Charts.{curves}
use Rattle.slopes.specs.Searches.{Same}
use Rattle.search.proofs.first_up_to.Given as goal

abbrev pub invariant-loop-part : goal.invariant-loop-part
invariant-loop-part l =
    let load = l.initial.search.load.now in
    let cs = curves load.tasks.now in
    (1 ≤ l.fine) × (l.fine ≤ l.over) × (l.over ≤ l.initial.over) × (1 ≤ l.part) × (l.part ≤ 2 * l.initial.over + 1)
    × ((y : ℕ) → y < l.fine → overruns_on load.rack cs y ≡ false) × (overruns_on load.rack cs l.over ≡ true)
    × Same l.initial.search l.search

abbrev pub decreases-loop-part : goal.decreases-loop-part
decreases-loop-part l =
    l.over - l.fine
