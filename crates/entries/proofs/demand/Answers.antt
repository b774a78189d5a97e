-- `entries::demand` meets its contract: refused where the call is out of range, else as the task asked for, or its absence, has it.
use Prim.Native.Nat.{◌≤◌}
use mathlib.Core.Path.{◌≡◌, sym, ◌∙◌}
use mathlib.Core.Bool.{true, false}
use mathlib.Core.Logic.{inl, inr}
use lib.Dec.{leb}
use borrow.Author.Tests.{lt-leb}
use Rattle.model.specs.Limits.{most_tick}
use Rattle.model.specs.Speeds.{speed_fits}
use Rattle.model.specs.Entries.{demanded_for, demanded}
use Rattle.entries.proofs.Asking.{call_taken}
use Rattle.entries.proofs.demand.Goals.{Else-x-gt-MOST_TICK}
use Rattle.entries.proofs.demand.Goals as goal

-- both tests of the call are passed
in_range : (c : Else-x-gt-MOST_TICK) → (speed_fits c.args.p c.args.q ≡ true) × (c.args.x.0 ≤ most_tick)
in_range c = (sym c.speed_fits.ensures ∙ c.if-not-speed_fits.false, c.if-x-gt-MOST_TICK.false)

pub returns-then-not-speed_fits : goal.returns-then-not-speed_fits
unfolding demanded
returns-then-not-speed_fits c =
    let speed = sym c.speed_fits.ensures in
    c.no_demand.ensures
    ∙ elim c.then-not-speed_fits.either [
      | inl w ↦ let breaks : speed_fits c.args.p c.args.q ≡ false = speed ∙ w in rw breaks
      | inr w ↦
          let fits : speed_fits c.args.p c.args.q ≡ true = speed ∙ w.0 in
          let late : leb c.args.x.0 most_tick ≡ false = lt-leb c.args.x.0 most_tick w.1 in
          rw (fits, late)
    ]

pub returns-in-Ok : goal.returns-in-Ok
returns-in-Ok c =
    let range = in_range (goal.at.returns-in-Ok c).Else-x-gt-MOST_TICK in
    call_taken _ _ _ _ _ range.0 range.1 c.in-Ok.ensures.found (rw c.in-Ok.ensures.same_set at c.demand_of.ensures)

pub returns-in-Err : goal.returns-in-Err
unfolding demanded_for
returns-in-Err c =
    let range = in_range (goal.at.returns-in-Err c).Else-x-gt-MOST_TICK in
    call_taken _ _ _ _ _ range.0 range.1 c.in-Err.ensures.found (rw (← c.number.ensures, ← c.place.ensures) c.no_demand-in-Err.ensures)
