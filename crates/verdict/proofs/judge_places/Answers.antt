-- `verdict::judge_places` meets its contract: one way through it for a cycle over the limit, and one for the verdict.
use Rattle.verdict.proofs.WholeCycle.{periods_kept, found_long, found_within}
use Rattle.verdict.proofs.judge_places.Goals as goal

pub common_cycle-cycle-requires : goal.common_cycle-cycle-requires
common_cycle-cycle-requires c =
    periods_kept c.args.set.now c.args.places.now c.periods_at-periods.ensures c.requires.by_index

pub judge_cycle-requires : goal.judge_cycle-requires
judge_cycle-requires c =
    let cycle = found_within c.args.set.now c.args.places.now c.periods_at-periods.ensures
    c.common_cycle-cycle.ensures c.in-Some.is in
    record { places_len_bound = c.requires.places_len_bound; judgeable = (c.requires.by_index, c.requires.called, cycle) }

pub returns-in-None : goal.returns-in-None
returns-in-None c =
    let args = c.args in
    found_long args.set.now args.places.now c.periods_at-periods.ensures c.common_cycle-cycle.ensures
    c.in-None.is
