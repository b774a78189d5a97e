-- `vertices::has` meets its contract: a word has no digit from 64 on.
use mathlib.Core.Path.{refl, sym}
use native.Mathlib.Omega.{arith}
use Rattle.vertices.specs.Members.{has}
use Rattle.vertices.proofs.Members.{has_high}
use Rattle.vertices.proofs.has.Goals as goal

pub returns-then-v-lt64 : goal.returns-then-v-lt64
unfolding has
returns-then-v-lt64 c = refl

pub returns-else-v-lt64 : goal.returns-else-v-lt64
returns-else-v-lt64 c = sym (has_high c.args.w c.args.v (omega arith) (omega arith))
