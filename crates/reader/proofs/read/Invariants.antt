-- `reader::read` meets its contract. The loop's invariant: the tasks found so far, in front of what is yet to be read, are the whole
-- reading. The measure is what is left of the records.
use Prim.Native.Nat.{◌-◌}
use Rattle.reader.proofs.Progress.{SoFar}
use Rattle.reader.proofs.read.Given as goal

abbrev pub invariant-loop-place : goal.invariant-loop-place
invariant-loop-place l =
    SoFar l.set l.found l.place

abbrev pub decreases-loop-place : goal.decreases-loop-place
decreases-loop-place l =
    l.end - l.place
