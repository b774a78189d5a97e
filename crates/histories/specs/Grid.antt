-- Finer grids: "cut each tick into any whole number of equal parts". With n parts a time unit has n·p ticks, a job of time c takes
-- n·q·c of them and holds n·q·c units of work; remaining work, demand, bound and number 8 are worked out anew in these, and nothing
-- keeps n·q within the limit of a speed.
use Rattle.std.specs.Prelude.{ℕ, ◌*◌, ◌≡◌, Bool, true, false, List, ltb}
use Rattle.model.specs.Curve.{Curve, AllFit, FirstDense, total, bound, Outcome, accepted, dense, overrun}

-- "(m·q - (m-1)·p)"
abbrev pub finer_bound : ℕ → ℕ → ℕ → ℕ → ℕ
finer_bound n m p q = bound m (n * p) (n * q)

-- "Tick x overruns when p·W(x) > (m·q - (m-1)·p)·x", for tick y of the finer grid
unfoldable pub finer_overruns : ℕ → ℕ → ℕ → ℕ → List Curve → ℕ → Bool
finer_overruns n m p q cs y = ltb (finer_bound n m p q * y) (n * p * total (n * p) (n * q) cs y)

-- "The verdict 0, 8 or 9": with 8 its task, and with 9 not where the overrun begins, which the grid decides
pub data Ruling : Type 0 where
  is_accepted : Ruling
  is_dense : (i : ℕ) → Ruling
  is_overrun : Ruling

abbrev pub ruling_of : Outcome → Ruling
ruling_of accepted = is_accepted
ruling_of (dense i) = is_dense i
ruling_of (overrun x w) = is_overrun

-- the verdict "over the finer grid", over all its ticks
pub data FinerVerdict (n m p q : ℕ) (cs : List Curve) : Ruling → Type 0 where
  accepts : AllFit (n * p) (n * q) cs → ((y : ℕ) → finer_overruns n m p q cs y ≡ false) → FinerVerdict n m p q cs is_accepted
  refuses : (i : ℕ) → FirstDense (n * p) (n * q) cs i → FinerVerdict n m p q cs (is_dense i)
  exceeds : (y : ℕ) → AllFit (n * p) (n * q) cs → finer_overruns n m p q cs y ≡ true → FinerVerdict n m p q cs is_overrun
