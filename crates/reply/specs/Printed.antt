-- What the program prints for its whole input.
use Rattle.std.specs.Prelude.{ℕ, ◌+◌, ◌-◌, ◌*◌, ◌≤◌, ◌<◌, cond, ◌&&◌, List, length, get_or, drop}
use Rattle.model.specs.Limits.{most_bytes}
use Rattle.model.specs.Speeds.{rack_fits, unnamed}
use Rattle.model.specs.Entries.{Answer, Judged}
use Rattle.line.specs.Text.{line_of, too_long}

-- "For 0/0 the printing program and the margin report now name m/(2m-1).": p and q of the speed that the program names. An m outside
-- 1..16 has no such speed, and is refused with any.
abbrev pub named_p : ℕ → ℕ → ℕ → ℕ
named_p m p q = cond (rack_fits m && unnamed p q) m p

abbrev pub named_q : ℕ → ℕ → ℕ → ℕ
named_q m p q = cond (rack_fits m && unnamed p q) (2 * m - 1) q

-- judge's answer for the call of an input, at that speed
abbrev pub JudgedNamed : List ℕ → ℕ → ℕ → ℕ → Answer → Type 0
JudgedNamed bytes m p q = Judged bytes m (named_p m p q) (named_q m p q)

-- "three bytes m, p, q and then a set of at most 65,536 bytes"; "Fewer than three bytes print `1 0 0 0`; a longer set prints `too long`
-- and a line feed, whatever m, p and q are."
pub data Printed (input : List ℕ) : List ℕ → Type 0 where
  long_set : 3 + most_bytes < length input → Printed input too_long
  no_call : length input < 3 → Printed input (line_of 1 0 0 0)
  answer :
      (a : Answer) → 3 ≤ length input → length input ≤ 3 + most_bytes
      → JudgedNamed (drop 3 input) (get_or input 0 0) (get_or input 1 0) (get_or input 2 0) a
      → Printed input (line_of a.number a.place a.x a.w)
