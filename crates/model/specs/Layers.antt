-- The layers of a task: widths tick by tick, equal neighbours joined.
use Rattle.std.specs.Prelude.{ℕ, suc, ◌-◌, ◌*◌, cond, List, [], ◌∷◌, eqb}
use Rattle.model.specs.Range.{listed}
use Rattle.model.specs.Curve.{Curve}

-- "for x from 0 to q·length - 1 the width is rdem(x) - rdem(x+1)"
unfoldable pub widths : Curve → ℕ → List ℕ
widths c q = listed (q * c.length) (λ x. c.remains q x - c.remains q (suc x))

-- a "pair (width, duration)"
pub record Layer : Type 0 where
  pub width : ℕ
  pub duration : ℕ

-- one more tick in front
abbrev pub with_tick : ℕ → List Layer → List Layer
with_tick w [] = record { width = w; duration = 1 } ∷ []
with_tick w (l ∷ ls) =
    cond (eqb w l.width)
    (record { width = w; duration = suc l.duration } ∷ ls)
    (record { width = w; duration = 1 } ∷ l ∷ ls)

-- "Neighbouring equal widths join into one pair"
abbrev pub joined : List ℕ → List Layer
joined [] = []
joined (w ∷ ws) = with_tick w (joined ws)

unfoldable pub layers : Curve → ℕ → List Layer
layers c q = joined (widths c q)

-- pairs as the words of a table
abbrev pub as_words : List Layer → List ℕ
as_words [] = []
as_words (l ∷ ls) = l.width ∷ l.duration ∷ as_words ls
