-- `look::look` meets its contract: a rough look, and what it leaves from line to line. The loop's invariant: nothing overruns from what is
-- left on up to where the rough look ended, and the search is of the same tasks. The measure is what is left.
use Prim.Native.Nat.{ℕ, ◌≤◌, ◌<◌}
use mathlib.Core.Path.{◌≡◌}
use mathlib.Core.Bool.{false}
use Rattle.units.specs.Rack.{overruns_on}
use Rattle.curve.specs.Charts.{curves}
use Rattle.slopes.specs.Searches.{Same}
use Rattle.look.proofs.look.Given as goal

abbrev pub invariant-loop-left : goal.invariant-loop-left
invariant-loop-left l =
    let load = l.initial.search.load.now in
    record {
      same : Same l.initial.search l.search;
      within : l.left ≤ l.initial.left;
      clear : (y : ℕ) → l.left ≤ y → y < l.initial.left → overruns_on load.rack (curves load.tasks.now) y ≡ false;
    }

abbrev pub decreases-loop-left : goal.decreases-loop-left
decreases-loop-left l =
    l.left
