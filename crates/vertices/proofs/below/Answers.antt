-- `vertices::below` meets its contract: the digits below n are those of the number before 2^n.
use Prim.Native.Nat.{◌-◌}
use mathlib.Core.Path.{◌≡◌, ◌∙◌, ap}
use native.Mathlib.Omega.{arith}
use lib.Dec.{ltb}
use lib.Pow.{pow_pos}
use Rattle.vertices.specs.Members.{has}
use Rattle.vertices.proofs.Members.{has_below_power, one_shifted}
use Rattle.vertices.proofs.below.Goals as goal

pub overflow_sub-result : goal.overflow_sub-result
overflow_sub-result c = let n = c.args.n in omega (arith, one_shifted n (omega arith), pow_pos n)

pub returns-then-n-lt64 : goal.returns-then-n-lt64
returns-then-n-lt64 c =
    let n = c.args.n in
    λ u. ap (λ x. has (x - 1) u) (one_shifted n (omega arith)) ∙ has_below_power n u

pub returns-else-n-lt64 : goal.returns-else-n-lt64
returns-else-n-lt64 c =
    let all : 64 ≡ c.args.n = omega arith in
    λ u. has_below_power 64 u ∙ ap (ltb u) all
