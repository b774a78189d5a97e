-- `search::marks::reach_of` meets its contract. The loop's invariant: the marks that are left, with the nearest so far for the end, have the
-- nearest of all, and the sum is that of the slopes passed.
use mathlib.Core.Path.{◌≡◌}
use lib.ListN.{take, drop}
use Rattle.search.specs.Marks.{nearest, steepness}
use Rattle.search.proofs.marks.reach_of.Given as goal

abbrev pub invariant-loop-mark : goal.invariant-loop-mark
invariant-loop-mark l =
    (nearest (drop l.mark-index l.marks) l.next ≡ nearest l.marks l.end)
    × (l.slope ≡ steepness (take l.mark-index l.marks))
