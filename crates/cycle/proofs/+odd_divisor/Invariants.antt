-- `cycle::odd_divisor` meets its contract. It calls itself on the smaller number and what is left of the gap. The measure is how many
-- binary digits both numbers have together, so that there are no more calls than that.
use Rattle.std.proofs.Common.{◌+◌}
use Rattle.cycle.proofs.Halving.{digits}
use Rattle.cycle.proofs.+odd_divisor.Given as goal

abbrev pub decreases-odd_divisor : goal.decreases-odd_divisor
decreases-odd_divisor l = digits l.a + digits l.b
