-- `speeds::default_speed` meets its contract: the smallest speed that reaches the largest ratio covers the rack and all its tasks, and
-- no smaller one does.
use Rattle.model.proofs.Speeds.{smallest_same, ratio_range}
use Rattle.speeds.proofs.default_speed.Goals as goal

pub smallest_speed-requires : goal.smallest_speed-requires
smallest_speed-requires g c =
    let ratio = c.largest_ratio-least in
    record {
      le_n = ratio_range ratio.result.n ratio.result.d c.args.m c.requires.le_m.0 ratio.ensures.covers c.requires.timely;
      d_le_longest_period = ratio.ensures.bounded;
    }

pub returns : goal.returns
returns g c = smallest_same c.largest_ratio-least.ensures.covers c.smallest_speed.ensures
