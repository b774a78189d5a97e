-- `search::marks::renew_each` meets its contract. The loop's invariant: the demand of each task is a line up to its mark, and the marks of
-- the tasks passed are ahead.
use Prim.Native.Nat.{ℕ, ◌<◌}
use Rattle.curve.specs.Charts.{curves}
use Rattle.stretch.specs.Stretches.{AllKept}
use Rattle.search.specs.Marks.{Marked, mark_at}
use Rattle.search.proofs.marks.renew_each.Given as goal

abbrev pub invariant-loop-i : goal.invariant-loop-i
invariant-loop-i l =
    record {
      marked : Marked (curves l.charts) l.speed l.x.0 0 l.marks;
      ahead : (k : ℕ) → k < l.i → l.x.0 < (mark_at l.marks k).at;
      kept : AllKept (curves l.charts) l.speed l.kept;
    }
