-- What is printed for an upload.
use Rattle.std.specs.Prelude.{ℕ, List}
use Rattle.model.specs.Entries.{Answer}
use Rattle.line.specs.Text.{line_of}
use Rattle.parts.specs.declared.Upload.{Upload}
use Rattle.parts.specs.Upload.{ClosingJudged}
use Rattle.reply.specs.Printed.{named_p, named_q}

-- the line of a closing at m, p and q: for 0/0 the speed m/(2m-1) is named, as the printing program does
pub data ClosingPrinted (u : Upload) (room : List ℕ) (m p q : ℕ) : List ℕ → Type 0 where
  answer :
      (a : Answer) → ClosingJudged u room m (named_p m p q) (named_q m p q) a
      → ClosingPrinted u room m p q (line_of a.number a.place a.x a.w)
