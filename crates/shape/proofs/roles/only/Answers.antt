-- `shape::roles::only` meets its contract, by cases on the test.
use mathlib.Core.Path.{sym, ◌∙◌, ap}
use mathlib.Core.Bool.{◌&&◌}
use Rattle.vertices.specs.Members.{has}
use Rattle.vertices.proofs.Members.{has_zero}
use Rattle.shape.proofs.roles.only.Goals as goal

pub returns-then-test : goal.returns-then-test
returns-then-test c = λ u. sym (ap (λ b. b && has c.args.w u) c.if-test.true)

pub returns-else-test : goal.returns-else-test
returns-else-test c = λ u. has_zero u ∙ sym (ap (λ b. b && has c.args.w u) c.if-test.false)
