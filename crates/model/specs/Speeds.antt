-- Speeds: which there are, the smallest that is enough, and the one that a call of judge uses. And the sizes of racks.
use Rattle.std.specs.Prelude.{ℕ, ◌-◌, ◌*◌, ◌≤◌, ◌≡◌, Bool, true, ◌&&◌, List, leb, eqb}
use Rattle.model.specs.Limits.{most_processors, largest_part}
use Rattle.model.specs.Curve.{Curve, AllFit, divisor}

-- "A speed is p/q with 1 <= p <= q <= 31."
abbrev pub speed_fits : ℕ → ℕ → Bool
speed_fits p q = leb 1 p && leb p q && leb q largest_part

-- "m outside 1..16"
abbrev pub rack_fits : ℕ → Bool
rack_fits m = leb 1 m && leb m most_processors

-- "the smallest p/q, in lowest terms, with q at most 31", of those that are enough
pub record Smallest (Enough : ℕ → ℕ → Type 0) (p q : ℕ) : Type 0 where
  pub range : speed_fits p q ≡ true
  pub lowest : divisor p q ≡ 1
  pub enough : Enough p q
  pub least : (a b : ℕ) → speed_fits a b ≡ true → Enough a b → p * b ≤ a * q

-- "at least m/(2m-1) and at least every task's length/deadline": a task fits its deadline at just these speeds
abbrev pub Covers : ℕ → List Curve → ℕ → ℕ → Type 0
Covers m cs p q = (m * q ≤ p * (2 * m - 1)) × AllFit p q cs

-- "A judge call with 0/0 shall now use the smallest" of these
abbrev pub DefaultSpeed : ℕ → List Curve → ℕ → ℕ → Type 0
DefaultSpeed m cs = Smallest (Covers m cs)

-- "A judge call with 0/0"
abbrev pub unnamed : ℕ → ℕ → Bool
unnamed p q = eqb p 0 && eqb q 0

-- the speed used: the one that the call names, as it stands, or for 0/0 the default
pub data SpeedUsed (m p q : ℕ) (cs : List Curve) : ℕ → ℕ → Type 0 where
  named : speed_fits p q ≡ true → SpeedUsed m p q cs p q
  default : (a b : ℕ) → unnamed p q ≡ true → DefaultSpeed m cs a b → SpeedUsed m p q cs a b
