-- The stretches of a task's period: before its latest start nothing is due, up to the deadline its demand grows as the remaining work of
-- a piece does, and behind the deadline all of its work is due.
use Prim.Native.Nat.{ℕ, ◌+◌, ◌-◌, ◌*◌, ◌≤◌, ◌<◌}
use mathlib.Core.Path.{◌≡◌, sym, ◌∙◌, ap}
use mathlib.Core.Logic.{inl, inr}
use native.Mathlib.Nat.{div-eq_of_lt, mod-eq_of_lt, eq-or-lt_of_le, mul-le-mul_left, mul-add, mul-zero, mul-one}
use native.Mathlib.Omega.{arith}
use lib.Dec.{leb}
use borrow.Author.Tests.{leb-true, leb-false}
use Rattle.model.specs.Curve.{Curve}
use Rattle.model.specs.Lawful.{Lawful, Limited}
use Rattle.model.proofs.Ranges.{decided}
use Rattle.model.proofs.Speeds.{speed_kept}
use Rattle.model.proofs.Demand.{demand_is, demand_periods, demand_zero}
use Rattle.units.specs.declared.Speed.{Speed}
use Rattle.units.specs.Rack.{demand_at}
use Rattle.curve.specs.declared.chart.Chart.{Chart}
use Rattle.curve.specs.Charts.{chart_curve}
use Rattle.curve.specs.Tables.{table_curve}
use Rattle.piece.specs.Piece.{Linear}
use Rattle.piece.specs.declared.Piece.{Piece}
use Rattle.stretch.specs.Stretches.{AtSpeed, Stretches}
use Rattle.places.specs.declared.Stretch.{Stretch}
use Rattle.places.specs.OneStretch.{no_stretch, end_of, grown}

-- a stretch from a tick on, of a value and a slope over a run
abbrev pub stretch : ℕ → ℕ → ℕ → ℕ → Stretch
stretch from value slope run = record { from = record { 0 = from }; value = record { 0 = value }; slope = slope; run = record { 0 = run } }

module _ (chart : Chart) (speed : Speed) (at : AtSpeed speed (chart_curve chart)) where
  abbrev c : Curve
  c = chart_curve chart

  some : 0 < speed.p
  some = (speed_kept speed.p speed.q at.0).0

  law : Lawful c
  law = chart.sheet.curve.lawful

  -- the deadline is within the period
  constrained : speed.p * chart.figures.deadline.0 ≤ speed.p * chart.figures.period.0
  unfolding table_curve
  constrained = mul-le-mul_left speed.p law.constrained

  -- up to the end of the first period, the demand is the work that may remain when only so many ticks lead to the deadline
  first_period : (r : ℕ) → r ≤ speed.p * c.period → demand_at speed c r ≡ c.remains speed.q (speed.p * c.deadline - r)
  first_period r within =
      elim (eq-or-lt_of_le within) [
        | inl end ↦
            let due = mul-le-mul_left speed.p law.constrained in
            let late : 0 ≡ speed.p * c.deadline - r = omega arith in
            let all : demand_at speed c r ≡ speed.q * c.volume =
            ap (demand_at speed c) (omega (arith, mul-one (speed.p * c.period))) ∙ demand_periods speed.p speed.q some law 0 1
            ∙ omega (arith, demand_zero speed.p speed.q law at.1, mul-one (speed.q * c.volume)) in
            all ∙ sym (law.whole speed.q) ∙ ap (c.remains speed.q) late
        | inr before ↦
            demand_is speed.p speed.q law r
            ∙ rw (div-eq_of_lt before, mod-eq_of_lt before) (omega (arith, mul-zero (speed.q * c.volume)))
      ]

  -- up to the deadline a piece of the remaining work, read downward, is a stretch of the demand
  pub busy :
      {due : ℕ} (from : ℕ) (piece : Piece) → due ≡ speed.p * chart.figures.deadline.0 → from < due
      → Linear (c.remains speed.q) (due - from) piece
      → Stretches speed c (stretch from piece.value.0 piece.slope piece.run.0)
  unfolding table_curve
  busy {due} from piece is early line =
      let short = line.within in
      record {
        within = omega (arith, constrained);
        on = λ j few. first_period (from + j) (omega (arith, constrained)) ∙ ap (c.remains speed.q) (omega arith) ∙ line.on j few;
      }

  -- from the deadline to the end of the period all of its work is due
  pub late :
      {due turn work : ℕ} → due ≡ speed.p * chart.figures.deadline.0 → turn ≡ speed.p * chart.figures.period.0
      → work ≡ speed.q * chart.figures.volume.0
      → Stretches speed c (stretch due work 0 (turn - due))
  unfolding table_curve
  late {due} {turn} {work} is whole all =
      record {
        within = omega (arith, constrained);
        on = λ j few.
            let past : speed.p * c.deadline - (due + j) ≡ 0 = omega arith in
            first_period (due + j) (omega (arith, constrained)) ∙ ap (c.remains speed.q) past ∙ law.whole speed.q ∙ omega arith;
      }

  -- the latest start is no earlier than the release
  pub start_there : {due runs : ℕ} → due ≡ speed.p * chart.figures.deadline.0 → runs ≡ speed.q * chart.figures.length.0 → runs ≤ due
  unfolding table_curve
  start_there is length = omega (arith, leb-true (speed.q * c.length) (speed.p * c.deadline) at.1)

  -- up to it nothing is
  pub early :
      {due runs : ℕ} → due ≡ speed.p * chart.figures.deadline.0 → runs ≡ speed.q * chart.figures.length.0
      → Stretches speed c (stretch 0 0 0 (due - runs))
  unfolding table_curve
  early {due} {runs} is length =
      let room = start_there is length in
      record {
        within = omega (arith, constrained);
        on = λ j few.
            first_period (0 + j) (omega (arith, constrained)) ∙ law.over speed.q (speed.p * c.deadline - (0 + j)) (omega arith)
            ∙ omega arith;
      }

-- no tick, and nothing due: so do the places begin
pub nought : {speed : Speed} {c : Curve} → Limited c → AtSpeed speed c → Stretches speed c no_stretch
nought {speed} {c} limited at =
    record {
      within = omega arith;
      on = λ j few. ap (demand_at speed c) (omega arith) ∙ demand_zero speed.p speed.q limited.lawful at.1 ∙ omega arith;
    }

-- a stretch that goes on in the line of another, where that one ends, and both as one
pub joined :
    {speed : Speed} {c : Curve} {a b : Stretch} → Stretches speed c a → Stretches speed c b → a.slope ≡ b.slope
    → b.from.0 ≡ end_of a
    → Stretches speed c (grown a b)
joined {speed} {c} {a} {b} is_a is_b slope at =
    record {
      within = let within = is_b.within in omega arith;
      on = λ j few.
          elim (decided (leb j a.run.0)) [
            | inl e ↦ is_a.on j (leb-true j a.run.0 e)
            | inr e ↦
                let past = leb-false j a.run.0 e in
                let n = j - a.run.0 in
                let up : a.from.0 + j ≡ b.from.0 + n = omega arith in
                let last : a.from.0 + a.run.0 ≡ b.from.0 + 0 = omega arith in
                let parts : j ≡ a.run.0 + n = omega arith in
                ap (demand_at speed c) up ∙ is_b.on n (omega arith)
                ∙ omega (
                  arith,
                  is_a.on a.run.0 (omega arith),
                  is_b.on 0 (omega arith),
                  ap (demand_at speed c) last,
                  mul-zero b.slope,
                  ap (λ m. a.slope * m) parts,
                  mul-add a.slope a.run.0 n,
                  ap (λ m. m * n) slope,
                )
          ];
    }
