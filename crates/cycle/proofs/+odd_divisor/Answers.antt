use Prim.Native.Nat.{ℕ, ◌-◌, ◌/◌, ◌^◌, min, max}
use mathlib.Core.Path.{◌≡◌, sym, ◌∙◌, ap}
use native.Mathlib.Omega.{arith}
use lib.Count.{count_trailing_zeros}
use Rattle.model.specs.Curve.{divisor}
use Rattle.cycle.proofs.Halving.{Halved, halved, digits, divisor_same, round_divisor, round_shorter}
use Rattle.cycle.proofs.+odd_divisor.Goals.{After-min}
use Rattle.cycle.proofs.+odd_divisor.Goals as goal

pub returns-then-a-b : goal.returns-then-a-b
returns-then-a-b t c = sym (ap (divisor c.args.a) (sym c.if-a-b.true) ∙ divisor_same c.args.a)

-- the gap, and what is left of it
module _ (t : ℕ) (c : After-min t) where
  abbrev apart : ℕ
  apart = c.abs_diff-apart.result

  gap : apart ≡ max c.args.a c.args.b - min c.args.a c.args.b
  gap = omega (arith, c.abs_diff-apart.ensures)

  left : Halved apart (count_trailing_zeros 64 apart) (apart / 2 ^ count_trailing_zeros 64 apart)
  left = halved 64 apart (omega (arith, gap)) (omega (arith, c.abs_diff-apart.type_inv))

pub odd_divisor-requires : goal.odd_divisor-requires
odd_divisor-requires t c =
    let less = c.min.ensures in
    let shorter = round_shorter c.args.a c.args.b c.requires (gap t c) (left t c) (omega arith) (omega arith) in (
      omega (arith, ap digits less),
      (omega (arith, less), (left t c).odd),
    )

pub returns : goal.returns
returns t c =
    c.odd_divisor.ensures ∙ ap (λ x. divisor x (apart t c.before / 2 ^ count_trailing_zeros 64 (apart t c.before))) c.min.ensures
    ∙ round_divisor c.args.a c.args.b c.requires (gap t c.before) (left t c.before)
