-- `line::buffer::Line::push_number` meets its contract: the digits are those of the number, twenty at most.
use Rattle.std.proofs.Common.{◌∙◌, ap, ◌++◌, arith}
use Rattle.line.specs.Text.{text}
use Rattle.line.proofs.Digits.{at_most_twenty, spelled}
use Rattle.line.proofs.buffer.Line.push_number.Goals as goal

pub returns : goal.returns
returns c =
    let digits = c.decimal-count.ensures in (
      c.extend_from_slice.ensures.0 ∙ ap (λ t. text c.args.self.now ++ t) (digits.digits ∙ spelled digits.len),
      omega (arith, c.extend_from_slice.ensures.1, at_most_twenty c.ranges.n.fits digits.len),
    )
