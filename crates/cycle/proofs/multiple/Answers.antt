-- `cycle::multiple` meets its contract: the quotient times b is the definition's own, which is at most the product.
use Prim.Native.Nat.{◌*◌, ◌/◌}
use mathlib.Core.Path.{ap}
use Rattle.model.specs.Curve.{multiple}
use Rattle.model.proofs.Divisor.{divisor_positive}
use Rattle.cycle.proofs.multiple.Goals as goal

pub nonzero_div-result : goal.nonzero_div-result
nonzero_div-result c = rw c.divisor.ensures (divisor_positive _ _ c.requires.0)

pub returns : goal.returns
unfolding multiple
returns c = ap (λ d. c.args.a / d * c.args.b) c.divisor.ensures
