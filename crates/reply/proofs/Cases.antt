-- The cases that document 01 marks *, all of them in one table under one claim: the model's table of calls of the four entries, and what
-- the program prints.
use Prim.Native.Nat.{ℕ}
use mathlib.Core.List.{List, [], ◌∷◌, map}
use native.Mathlib.Omega.{arith}
use Rattle.model.proofs.Lists.{Each, each_map}
use Rattle.model.proofs.Sets.{set_X}
use Rattle.model.proofs.Cases as entries
use Rattle.line.specs.Text.{line_of, decimal, digit_count}
use Rattle.reply.specs.Printed.{Printed, answer}

-- A row: a call of an entry and its answer, or an input of the program and the line for it.
pub data Case : Type 0 where
  call : entries.Case → Case
  prints : (input line : List ℕ) → Case

-- The claim: the answer satisfies the statement of its entry, the line that of the program.
abbrev pub Holds : Case → Type 0
Holds (call c) = entries.Holds c
Holds (prints input line) = Printed input line

-- "X, m=2, 1/1 .. The program prints `9 0 9 10`."
input_X : List ℕ
input_X = 2 ∷ 1 ∷ 1 ∷ set_X

line_X : List ℕ
line_X = 57 ∷ 32 ∷ 48 ∷ 32 ∷ 57 ∷ 32 ∷ 49 ∷ 48 ∷ 10 ∷ []

pub table : List Case
table = prints input_X line_X ∷ map call entries.table

-- the model's table has the answer for X; the length of the input and the digits of the line are computed
printed_X : Printed input_X line_X
unfolding input_X line_X set_X line_of decimal digit_count
printed_X = answer (entries.overrun_at 1 1 9 10) (omega arith) (omega arith) entries.judged_X

pub cases : Each Holds table
unfolding table
cases = (printed_X, each_map entries.Holds Holds call entries.table (λ c h. h) entries.cases)
