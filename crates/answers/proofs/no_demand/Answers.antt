-- `answers::no_demand` meets its contract: the work is 0.
use mathlib.Core.Path.{refl}
use Rattle.answers.specs.Given.{demand_gives}
use Rattle.answers.proofs.no_demand.Goals as goal

pub returns : goal.returns
unfolding demand_gives
returns c = refl
