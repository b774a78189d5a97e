-- `line::answer_line` meets its contract: number by number, what the line shows so far.
use Rattle.std.proofs.Common.{refl, append_assoc}
use Rattle.line.specs.Text.{line_of}
use Rattle.line.proofs.answer_line.Goals as goal

pub returns : goal.returns
unfolding line_of
returns c =
    simp (
      c.push-4.ensures.0,
      c.push_number-4.ensures.0,
      c.push-3.ensures.0,
      c.push_number-3.ensures.0,
      c.push-2.ensures.0,
      c.push_number-2.ensures.0,
      c.push.ensures.0,
      c.push_number.ensures.0,
      c.new-line.ensures.0,
      append_assoc,
    ) refl
