-- `search::first_below` meets its contract.
use Rattle.stretch.proofs.Places.{none_all}
use Rattle.search.proofs.Narrowing.{both_clear, clear_at_once}
use Rattle.search.proofs.first_below.Goals.{In-Err}
use Rattle.search.proofs.first_below.Goals as goal

pub invariant_of-search : goal.invariant_of-search
invariant_of-search c =
    let load = c.args.load.now in
    let zeros = c.new.ensures in
    record { all_kept = c.allow_walks.ensures (none_all _ load.tasks.now load.rack.speed load.few load.on_rack.speed load.timely zeros.0 zeros.2) }

pub returns-in-Ok : goal.returns-in-Ok
returns-in-Ok c =
    let a = c.args in
    both_clear _
    (clear_at_once a.load.now.tasks.now a.load.now.rack c.args.load.now.timely)
    (rw c.in-Ok.is at c.look-seen.ensures.found)
