-- A line of demand that fits the bound at both ends fits it throughout, and its lower end clears what lies below as far as the bound has
-- room for it.
use Prim.Native.Nat.{ℕ, ◌+◌, ◌-◌, ◌*◌, ◌/◌, ◌≤◌, ◌<◌, min}
use mathlib.Core.Path.{◌≡◌, ap}
use mathlib.Core.Logic.{inl, inr}
use native.Mathlib.Nat.{mul_assoc, mul-add, mul-le-mul_right}
use native.Mathlib.Omega.{arith}
use lib.Dec.{leb}
use borrow.Author.Tests.{leb-true, leb-false}
use Rattle.model.proofs.Ranges.{decided}
use Rattle.rough.proofs.RoughLook.{low_clears}
use Rattle.slopes.specs.declared.lines.Line.{Line}
use Rattle.slopes.specs.Lines.{Falls}
use Rattle.slopes.proofs.Lining.{at_end}

module _ {w : ℕ → ℕ} {top : ℕ} {line : Line} (falls : Falls w top line) where
  -- the demand some ticks down
  at_low : (run : ℕ) → run ≤ line.run.0 → w (top - run) ≡ line.value.0 - line.slope * run
  at_low run short = omega (arith, falls.on run short)

  -- from a tick of the line to a later one
  rise : {a b : ℕ} → a ≤ b → b ≤ top → top ≤ a + line.run.0 → w b ≡ w a + line.slope * (b - a)
  rise {a} {b} later below near =
      let apart : top - a ≡ (top - b) + (b - a) = omega arith in
      omega (
        arith,
        on_line a (omega arith) near,
        on_line b below (omega arith),
        ap (λ k. line.slope * k) apart,
        mul-add line.slope (top - b) (b - a),
      )
    where
      on_line : (y : ℕ) → y ≤ top → top ≤ y + line.run.0 → w y + line.slope * (top - y) ≡ line.value.0
      on_line y under far =
          let back : top - (top - y) ≡ y = omega arith in
          rw back at (falls.on (top - y) (omega arith))

  -- the demand is a line there and so is the bound: where both ends fit, what is between them does
  throughout :
      (bound p : ℕ) {low : ℕ} → top ≤ low + line.run.0 → p * w low ≤ bound * low → p * w top ≤ bound * top
      → (y : ℕ) → low ≤ y → y ≤ top → p * w y ≤ bound * y
  throughout bound p {low} near here there y above below =
      let slope = line.slope in
      elim (decided (leb (p * slope) bound)) [
        | inl flat ↦
            let up : low + (y - low) ≡ y = omega arith in
            omega (
              arith,
              ap (λ k. p * k) (rise above below near),
              mul-add p (w low) (slope * (y - low)),
              mul_assoc p slope (y - low),
              mul-le-mul_right (y - low) (leb-true (p * slope) bound flat),
              mul-add bound low (y - low),
              ap (λ k. bound * k) up,
            )
        | inr steep ↦
            let up : y + (top - y) ≡ top = omega arith in
            let most : bound ≤ p * slope = omega (arith, leb-false (p * slope) bound steep) in
            omega (
              arith,
              ap (λ k. p * k) (rise below (omega arith) (omega arith)),
              mul-add p (w y) (slope * (top - y)),
              mul_assoc p slope (top - y),
              mul-le-mul_right (top - y) most,
              mul-add bound y (top - y),
              ap (λ k. bound * k) up,
            )
      ]

  module _
      (bound p run : ℕ) (short : run ≤ line.run.0) (there : p * line.value.0 ≤ bound * top)
      (here : p * (line.value.0 - line.slope * run) ≤ bound * (top - run)) where
    -- what a run of ticks down passes, and what lies below, down to the tick at which the bound has room for the demand of the lower end,
    -- because demand rises
    pub cleared :
        {x clear : ℕ} → ((x y : ℕ) → x ≤ y → w x ≤ w y) → 0 < bound
        → clear ≡ (p * (line.value.0 - line.slope * run) + bound - 1) / bound → x ≡ min (top - run) clear
        → (y : ℕ) → x ≤ y → y ≤ top → p * w y ≤ bound * y
    cleared rises some is least y above below =
        let low = top - run in
        elim (decided (leb low y)) [
          | inl inside ↦
              throughout bound p {low = low} (omega (arith, falls.within)) (rw (at_low run short) here) (rw (at_end falls) at there) y
              (leb-true low y inside) below
          | inr under ↦
              let lower = leb-false low y under in
              low_clears p bound w rises {top = low} some (omega (arith, at_low run short)) is y (omega arith) (omega arith)
        ]
