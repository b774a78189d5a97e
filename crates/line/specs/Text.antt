-- The line that the program prints: "number, place, x and W in decimal, one space between, a line feed after".
use Rattle.std.specs.Prelude.{ℕ, suc, ◌^◌, List, [], ◌∷◌, ◌++◌, ltb, take}
use Rattle.io.specs.Digits.{last_digits}
use Rattle.model.specs.Range.{least}
use Rattle.line.specs.declared.buffer.Line.{Line}

-- how many decimal digits n takes, one at least
unfoldable pub digit_count : ℕ → ℕ
digit_count n = suc (least n (λ k. ltb n (10 ^ suc k)))

-- n "in decimal"
unfoldable pub decimal : ℕ → List ℕ
decimal n = last_digits 10 (digit_count n) n

-- "one space between"
abbrev pub space : ℕ
space = 32

-- "a line feed after"
abbrev pub line_feed : ℕ
line_feed = 10

unfoldable pub line_of : ℕ → ℕ → ℕ → ℕ → List ℕ
line_of number place x w =
    decimal number ++ space ∷ decimal place ++ space ∷ decimal x ++ space ∷ decimal w ++ line_feed ∷ []

-- "prints `too long` and a line feed"
abbrev pub too_long : List ℕ
too_long = 116 ∷ 111 ∷ 111 ∷ space ∷ 108 ∷ 111 ∷ 110 ∷ 103 ∷ line_feed ∷ []

-- the bytes of a line that the code holds
abbrev pub text : Line → List ℕ
text l = take l.len l.bytes
