-- `entries::refuse` meets its contract: x and W are 0.
use mathlib.Core.Path.{refl}
use Rattle.entries.specs.Given.{judge_gives}
use Rattle.entries.proofs.refuse.Goals as goal

pub returns : goal.returns
unfolding judge_gives
returns c = refl
