-- `cycle::divisor` meets its contract: 0 has every divisor, and any other number is what is left of it, with its factors of two.
use Prim.Native.Nat.{◌*◌, ◌%◌, ◌^◌}
use mathlib.Core.Path.{sym, ◌∙◌, ap, ap₂}
use native.Mathlib.Nat.{le_of_dvd, lt_of_le_of_lt, mod-eq_of_lt}
use native.Mathlib.Omega.{arith}
use Rattle.model.specs.Curve.{divisor}
use Rattle.model.proofs.Divisor.{divisor_is, divisor_ends}
use Rattle.cycle.proofs.Halving.{halved, divisor_swapped, halved_divisor}
use Rattle.cycle.proofs.divisor.Goals as goal

pub returns-then-a-eq0 : goal.returns-then-a-eq0
returns-then-a-eq0 c =
    let b = c.args.b in sym (ap (λ a. divisor a b) c.if-a-eq0.true ∙ divisor_swapped 0 b ∙ divisor_ends b)

pub returns-then-b-eq0 : goal.returns-then-b-eq0
returns-then-b-eq0 c = let a = c.args.a in sym (ap (divisor a) c.if-b-eq0.true ∙ divisor_ends a)

pub odd_divisor-requires : goal.odd_divisor-requires
odd_divisor-requires c =
    ((halved 64 c.args.a (omega arith) (omega arith)).odd, (halved 64 c.args.b (omega arith) (omega arith)).odd)

pub returns : goal.returns
returns c =
    let a = c.args.a in
    let b = c.args.b in
    let left_a = halved 64 a (omega arith) (omega arith) in
    let left_b = halved 64 b (omega arith) (omega arith) in
    ap (λ n. n % 2 ^ 64) (ap₂ (λ d t. d * 2 ^ t) c.odd_divisor.ensures c.min.ensures ∙ halved_divisor left_a left_b)
    ∙ mod-eq_of_lt (lt_of_le_of_lt (le_of_dvd (omega arith) (divisor_is a b).left) (omega arith))
