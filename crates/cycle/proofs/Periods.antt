-- The walk over the periods: one turn keeps the common cycle that is still to come, and a limit passed settles the answer.
use Prim.Native.Nat.{ℕ, ◌+◌, ◌≤◌, ◌<◌}
use mathlib.Core.Path.{◌≡◌, sym, ap}
use mathlib.Core.List.{List}
use native.Mathlib.Nat.{lt_of_lt_of_le}
use native.Mathlib.Numerals.{add-one}
use native.Mathlib.Omega.{arith}
use lib.ListN.{length, get_or, drop, length-drop, drop_of_length-le}
use lib.Seq.{drop-cons, get_or-drop}
use borrow.Author.Tests.{le-leb, lt-leb}
use Rattle.model.specs.Limits.{most_cycle}
use Rattle.model.specs.Curve.{multiple, cycle_from}
use Rattle.model.proofs.Lists.{Each, each_at}
use Rattle.model.proofs.Cycle.{cycle_grows}
use Rattle.cycle.specs.Limit.{within}
use Rattle.std.proofs.Common.{Some, None}

-- one more period taken in
pub turn :
    (h : ℕ) (periods : List ℕ) (i : ℕ) → i < length periods
    → cycle_from (multiple h (get_or periods i 0)) (drop (i + 1) periods) ≡ cycle_from h (drop i periods)
turn h periods i l = rw add-one (ap (cycle_from h) (sym (drop-cons periods i 0 l)))

-- a multiple over the limit stays over it, whatever is still to come
pub over :
    (h : ℕ) (periods : List ℕ) (i : ℕ) → 0 < h → ((k : ℕ) → k < length periods → 1 ≤ get_or periods k 0) → most_cycle < h
    → None ≡ within (cycle_from h (drop i periods))
unfolding within
over h periods i some each l =
    rw (lt-leb (cycle_from h (drop i periods)) most_cycle (lt_of_lt_of_le l (cycle_grows h (drop i periods) left some)))
  where
    left : Each (λ period. 1 ≤ period) (drop i periods)
    left =
        each_at (λ period. 1 ≤ period) (drop i periods) 0 (λ k s.
        rw get_or-drop (each (i + k) (omega (arith, length-drop i periods))))

-- where no period is left, the multiple is the common cycle
pub done :
    (h : ℕ) (periods : List ℕ) (i : ℕ) → length periods ≤ i → h ≤ most_cycle
    → Some h ≡ within (cycle_from h (drop i periods))
unfolding within
done h periods i none l = rw (drop_of_length-le periods none, le-leb h most_cycle l)
