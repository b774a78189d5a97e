-- The demand of one task over its chart: room for each number on the way, and the two ways in which it comes together.
use Prim.Native.Nat.{ℕ, ◌+◌, ◌-◌, ◌*◌, ◌/◌, ◌%◌, ◌≤◌, ◌<◌}
use mathlib.Core.Path.{◌≡◌, sym}
use native.Mathlib.Nat.{le_trans, mul-pos, mul-add, mul-le-mul, div-le_self}
use native.Mathlib.Omega.{arith}
use lib.Dec.{lit<}
use borrow.Author.Tests.{le-leb, lt-leb}
use Rattle.model.specs.Limits.{longest_period, largest_part, most_tick, largest_volume}
use Rattle.model.specs.Curve.{part, demand}
use Rattle.model.proofs.Speeds.{speed_kept}
use Rattle.model.proofs.Bounds.{word, widened, product_fits, period_fits, volume_fits}
use Rattle.units.specs.declared.Speed.{Speed}
use Rattle.units.specs.Rack.{SpeedInRange, demand_at}
use Rattle.curve.specs.declared.chart.Chart.{Chart}
use Rattle.curve.specs.declared.chart.Figures.{Figures}
use Rattle.curve.specs.Charts.{chart_curve}
use Rattle.curve.specs.Figured.{outline, InRange}
use Rattle.curve.specs.Tables.{table_curve}
use Rattle.piece.specs.Piece.{Linear}
use Rattle.piece.specs.declared.Piece.{Piece}
use Rattle.curve.proofs.Charts.{chart_range}
use Rattle.curve.proofs.Room.{left_most}
use Rattle.piece.proofs.Pieces.{at_tick}

-- A speed

-- both its parts have a limit
pub parts : (speed : Speed) → SpeedInRange speed → (speed.p ≤ largest_part) × (speed.q ≤ largest_part)
parts speed range = let kept = speed_kept speed.p speed.q range in (omega arith, kept.2)

-- room for a deadline or a period in ticks
pub clock_room : (speed : Speed) {d : ℕ} → SpeedInRange speed → d ≤ longest_period → speed.p * d < word
clock_room speed range low = period_fits (parts speed range).0 low

-- room for a length or a volume
pub work_room : (speed : Speed) {v : ℕ} → SpeedInRange speed → v ≤ largest_volume → speed.q * v < word
work_room speed range low = widened (volume_fits (parts speed range).1 low)

-- A task

-- the figures of a task fit their words at a speed
pub record Fitting (speed : Speed) (figures : Figures) : Type 0 where
  pub deadline : speed.p * figures.deadline.0 < word
  pub period : speed.p * figures.period.0 < word
  pub length : speed.q * figures.length.0 < word
  pub volume : speed.q * figures.volume.0 < word

pub figures_fit : (speed : Speed) (figures : Figures) → InRange (outline figures) → SpeedInRange speed → Fitting speed figures
figures_fit speed figures within range =
    record {
      deadline = clock_room speed range (le_trans within.constrained within.period);
      period = clock_room speed range within.period;
      length = work_room speed range within.length;
      volume = work_room speed range within.volume;
    }

-- a period has ticks
pub turn_some : (speed : Speed) (figures : Figures) → InRange (outline figures) → SpeedInRange speed → 0 < speed.p * figures.period.0
turn_some speed figures within range = mul-pos (speed_kept speed.p speed.q range).0 (le_trans within.some within.constrained)

module _ (chart : Chart) where
  module _ (speed : Speed) (range : SpeedInRange speed) where
    pub fitting : Fitting speed chart.figures
    fitting = figures_fit speed chart.figures (chart_range chart) range

    pub period_ticks : {turn : ℕ} → turn ≡ speed.p * chart.figures.period.0 → 0 < turn
    period_ticks is = rw is (turn_some speed chart.figures (chart_range chart) range)

    -- no piece of the remaining work has more than the volume
    pub piece_few :
        {work y : ℕ} {piece : Piece} → work ≡ speed.q * chart.figures.volume.0 → Linear ((chart_curve chart).remains speed.q) y piece
        → piece.value.0 ≤ work
    unfolding table_curve
    piece_few {y = y} is line = rw (sym (at_tick line), is) (left_most chart.sheet speed.q y)

    -- room for whole periods and a part of a broken one
    pub demand_room :
        {work : ℕ} (x turn rest : ℕ) → x ≤ most_tick → work ≡ speed.q * chart.figures.volume.0 → rest ≤ work → work * (x / turn) + rest < word
    unfolding table_curve
    demand_room {work} x turn rest tick is few =
        let light : work ≤ largest_part * largest_volume = rw is (mul-le-mul (parts speed range).1 chart.sheet.curve.volume) in
        let ticks : x / turn + 1 ≤ most_tick + 1 = omega (arith, div-le_self x turn) in
        let all : work * (x / turn + 1) < word = product_fits light ticks (lit< tt) in
        omega (arith, mul-add work (x / turn) 1)

-- the figures of a task at a speed: deadline and period in ticks, and the work of a period
pub record Scaled (speed : Speed) (figures : Figures) (due turn work : ℕ) : Type 0 where
  pub deadline : due ≡ speed.p * figures.deadline.0
  pub period : turn ≡ speed.p * figures.period.0
  pub volume : work ≡ speed.q * figures.volume.0

module _ (chart : Chart) (x : ℕ) {speed : Speed} {due turn work : ℕ} (is : Scaled speed chart.figures due turn work) where
  -- from the deadline on, the broken period asks for all of its work
  pub demand_past : due ≤ x % turn → work * (x / turn) + work ≡ demand_at speed (chart_curve chart) x
  unfolding demand part table_curve
  demand_past late =
      let past = rw (is.deadline, is.period) at late in
      rw (is.period, is.volume, le-leb (speed.p * chart.figures.deadline.0) (x % (speed.p * chart.figures.period.0)) past)

  -- before it, for the work that may remain when only so many ticks lead to the deadline
  pub demand_before :
      {piece : Piece} → x % turn < due → Linear ((chart_curve chart).remains speed.q) (due - x % turn) piece
      → work * (x / turn) + piece.value.0 ≡ demand_at speed (chart_curve chart) x
  unfolding demand part table_curve
  demand_before early line =
      let before = rw (is.deadline, is.period) at early in
      rw (sym (at_tick line), is.deadline, is.period, is.volume, lt-leb (speed.p * chart.figures.deadline.0) (x % (speed.p * chart.figures.period.0)) before)
