-- A line of demand beside the line of the bound: which tick of a run is the first that overruns.
use Prim.Native.Nat.{ℕ, ◌+◌, ◌-◌, ◌*◌, ◌/◌, ◌≤◌, ◌<◌}
use mathlib.Core.Path.{◌≡◌, sym, ◌∙◌, ap}
use mathlib.Core.Bool.{Bool, true, false}
use native.Mathlib.Nat.{mul_comm, mul_assoc, mul-add, add-mul, mul-le-mul_left, lt-mul-div-succ, div-mul-le_self}
use native.Mathlib.Omega.{arith}
use lib.Dec.{ltb}
use borrow.Author.Tests.{lt-ltb, le-ltb}
use Rattle.model.specs.Range.{least}
use Rattle.model.proofs.Ranges.{least_is}

module _ (bound p x w slope : ℕ) where
  -- the tick j after x overruns
  abbrev over : ℕ → Bool
  over j = ltb (bound * (x + j)) (p * (w + slope * j))

  -- both sides of the test are lines
  sides : (j : ℕ) → (bound * (x + j) ≡ bound * x + bound * j) × (p * (w + slope * j) ≡ p * w + p * slope * j)
  sides j = (mul-add bound x j, omega (arith, mul-add p w (slope * j), mul_assoc p slope j))

  fine : (j : ℕ) → p * w + p * slope * j ≤ bound * x + bound * j → over j ≡ false
  fine j low = let both = sides j in le-ltb (bound * (x + j)) (p * (w + slope * j)) (omega arith)

  crossed : (j : ℕ) → bound * x + bound * j < p * w + p * slope * j → over j ≡ true
  crossed j high = let both = sides j in lt-ltb (bound * (x + j)) (p * (w + slope * j)) (omega arith)

  module _ (run : ℕ) where
    -- x itself overruns
    pub at_once : bound * x < p * w → 0 ≡ least run over
    at_once high =
        sym (least_is run over 0 (omega arith) (λ j l. absurd (omega arith)) (λ _. crossed 0 (omega arith)))

    -- where x does not overrun and the bound rises no slower, nothing does
    pub never : p * w ≤ bound * x → p * slope ≤ bound → run ≡ least run over
    never low flat =
        sym (least_is run over run (omega arith)
        (λ j _. fine j (omega (arith, mul-le-mul_left j flat, mul_comm j (p * slope), mul_comm j bound))) (λ l. absurd (omega arith)))

    module _
        (low : p * w ≤ bound * x) (steep : bound < p * slope) {under : ℕ}
        (is : under ≡ (bound * x - p * w) / (p * slope - bound)) where
      abbrev gap : ℕ
      gap = p * slope - bound

      -- each tick, the demand gains the gap
      gained : (j : ℕ) → p * slope * j ≡ bound * j + gap * j
      gained j = let apart : p * slope ≡ bound + gap = omega arith in ap (λ r. r * j) apart ∙ add-mul bound gap j

      up_to : (j : ℕ) → j ≤ under → over j ≡ false
      up_to j l =
          let room = bound * x - p * w in
          fine j (omega (arith, gained j, mul-le-mul_left gap (rw is at l), div-mul-le_self room gap, mul_comm gap (room / gap)))

      -- the last tick that the gap leaves under the bound, and the next
      pub crosses : under < run → under + 1 ≡ least run over
      crosses l =
          sym (least_is run over (under + 1) (omega arith) (λ j m. up_to j (omega arith))
          (λ _. crossed (under + 1)
          (omega (arith, gained (under + 1), rw (← is) at (lt-mul-div-succ (bound * x - p * w) {b = gap} (omega arith))))))

      pub stays : run ≤ under → run ≡ least run over
      stays l = sym (least_is run over run (omega arith) (λ j m. up_to j (omega arith)) (λ m. absurd (omega arith)))
