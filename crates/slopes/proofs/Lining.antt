-- Lines of demand: that of a task from a stretch of its period, in every period, upward and downward; those of all tasks together; and
-- room for each number on the way.
use Prim.Native.Nat.{ℕ, ◌+◌, ◌-◌, ◌*◌, ◌/◌, ◌≤◌, ◌<◌}
use mathlib.Core.Path.{◌≡◌, refl, sym, ◌∙◌, ap}
use mathlib.Core.List.{List}
use native.Mathlib.Nat.{le_trans, lt_of_le_of_lt, mul-add, add-mul, mul-one, mul-zero, mul-le-mul, mul-div-le, lt-mul-div-succ}
use native.Mathlib.Omega.{arith}
use lib.Dec.{lit<}
use lib.ListN.{length, get_or, take}
use Rattle.model.specs.Limits.{longest_period, largest_part, most_tick}
use Rattle.model.specs.Curve.{Curve}
use Rattle.model.specs.Lawful.{Limited}
use Rattle.model.proofs.Speeds.{speed_kept}
use Rattle.model.proofs.Demand.{demand_periods}
use Rattle.model.proofs.Bounds.{word, demand_le}
use Rattle.units.specs.declared.Speed.{Speed}
use Rattle.units.specs.Rack.{SpeedInRange, demand_at, total_at}
use Rattle.demand.proofs.TableDemand.{parts}
use Rattle.curve.specs.declared.chart.Chart.{Chart}
use Rattle.curve.specs.Charts.{chart_curve, no_curve}
use Rattle.curve.specs.Tables.{table_curve}
use Rattle.demand.proofs.Totals.{total_more}
use Rattle.stretch.specs.Stretches.{Stretches, Somewhere}
use Rattle.slopes.specs.Lines.{Falls, Grows}
use Rattle.places.specs.declared.Stretch.{Stretch}
use Rattle.stretch.proofs.Period.{stretch}
use Rattle.slopes.specs.declared.lines.Line.{Line}

-- a line of a value and a slope over a run
abbrev pub line : ℕ → ℕ → ℕ → Line
line value slope run = record { value = record { 0 = value }; slope = slope; run = record { 0 = run } }

-- what a line says of the tick at which it ends, and of its slope
module _ {f : ℕ → ℕ} {x : ℕ} {l : Line} (falls : Falls f x l) where
  pub at_end : l.value.0 ≡ f x
  at_end = let same : x - 0 ≡ x = omega arith in omega (arith, ap f same, falls.on 0 (omega arith), mul-zero l.slope)

  pub run_within : l.slope * l.run.0 ≤ l.value.0
  run_within = omega (arith, falls.on l.run.0 (omega arith))

  pub slope_within : l.slope ≤ l.value.0
  slope_within = let some = falls.some in omega (arith, falls.on 1 (omega arith), mul-one l.slope)

-- One task

-- where a tick stands: behind whole periods, in a broken one of which it is at least the first tick
pub broken : {turn : ℕ} (x : ℕ) → 0 < turn → 0 < x
    → (turn * ((x - 1) / turn) < x) × (x - turn * ((x - 1) / turn) ≤ turn)
broken {turn} x some pos =
    (omega (arith, mul-div-le (x - 1) turn), omega (arith, lt-mul-div-succ (x - 1) some, mul-add turn ((x - 1) / turn) 1, mul-one turn))

-- in each period the demand is the line of the stretch
pub placed :
    (chart : Chart) (speed : Speed) {turn work : ℕ} (s : Stretch) (k : ℕ) → SpeedInRange speed → Stretches speed (chart_curve chart) s
    → turn ≡ speed.p * chart.figures.period.0 → work ≡ speed.q * chart.figures.volume.0 → turn * k + s.from.0 ≤ most_tick
    → Somewhere speed (chart_curve chart) (stretch (turn * k + s.from.0) (work * k + s.value.0) s.slope s.run.0)
unfolding table_curve
placed chart speed {turn} {work} s k range is period volume tick =
    record {
      begins = tick;
      short = let within = is.within in omega arith;
      on = λ j few.
          rw (period, volume)
          (ap (demand_at speed (chart_curve chart)) (omega arith)
          ∙ demand_periods speed.p speed.q (speed_kept speed.p speed.q range).0 chart.sheet.curve.lawful (s.from.0 + j) k
          ∙ omega (arith, is.on j few));
    }

module _ (speed : Speed) {c : Curve} (s : Stretch) (is : Somewhere speed c s) where
  -- where it begins
  pub at_begin : s.value.0 ≡ demand_at speed c s.from.0
  at_begin =
      let same : s.from.0 + 0 ≡ s.from.0 = omega arith in
      omega (arith, ap (demand_at speed c) same, is.on 0 (omega arith), mul-zero s.slope)

  -- downward
  pub falls_from :
      {x : ℕ} → s.from.0 < x → x ≤ s.from.0 + s.run.0
      → Falls (demand_at speed c) x (line (s.value.0 + s.slope * (x - s.from.0)) s.slope (x - s.from.0))
  falls_from {x} after within =
      record {
        some = omega arith;
        within = omega arith;
        on = λ j few.
            let n = x - s.from.0 - j in
            let down : x - j ≡ s.from.0 + n = omega arith in
            let parts : n + j ≡ x - s.from.0 = omega arith in
            let slopes : s.slope * n + s.slope * j ≡ s.slope * (x - s.from.0) =
            sym (mul-add s.slope n j) ∙ ap (λ m. s.slope * m) parts in
            omega (arith, ap (demand_at speed c) down, is.on n (omega arith), slopes);
      }

  -- upward
  pub grows_from :
      {x : ℕ} → s.from.0 < x + 1 → x + 1 ≤ s.from.0 + s.run.0
      → Grows speed c x s.slope (s.from.0 + s.run.0 - x)
  grows_from {x} after within =
      let short = is.short in
      let here :
      (j : ℕ) → j ≤ s.from.0 + s.run.0 - x
      → demand_at speed c (x + j) ≡ s.value.0 + s.slope * (x - s.from.0 + j) =
      λ j few.
      let up : x + j ≡ s.from.0 + (x - s.from.0 + j) = omega arith in
      ap (demand_at speed c) up ∙ is.on (x - s.from.0 + j) (omega arith) in
      record {
        some = omega arith;
        short = omega arith;
        on = λ j few.
            let now : x + 0 ≡ x = omega arith in
            omega (
              arith,
              here j few,
              here 0 (omega arith),
              ap (demand_at speed c) now,
              mul-add s.slope (x - s.from.0) j,
              mul-add s.slope (x - s.from.0) 0,
              mul-zero s.slope,
            );
      }

  -- room for the tick at which it ends
  pub end_fits : SpeedInRange speed → Limited c → s.from.0 + s.run.0 < word
  end_fits range limited =
      let begins = is.begins in
      let short = is.short in
      let turn : speed.p * c.period ≤ largest_part * longest_period = mul-le-mul (parts speed range).0 limited.period in
      omega arith

-- room for the demand of a task
pub demand_fits :
    (speed : Speed) {c : Curve} {x value : ℕ} → SpeedInRange speed → Limited c → x ≤ most_tick → value ≡ demand_at speed c x
    → value < word
demand_fits speed {c} {x} range limited tick is =
    let ticks : x + 1 ≤ most_tick + 1 = omega arith in
    rw is
    (lt_of_le_of_lt
    (le_trans (demand_le speed.p speed.q c x limited.lawful) (mul-le-mul (mul-le-mul (parts speed range).1 limited.volume) ticks))
    (lit< tt))

-- All tasks

-- one more: a line as far as both are
pub falls_more :
    (cs : List Curve) (speed : Speed) (i : ℕ) {x run : ℕ} {a b : Line} → i < length cs
    → Falls (total_at speed (take i cs)) x a → Falls (demand_at speed (get_or cs i no_curve)) x b
    → 0 < run → run ≤ a.run.0 → run ≤ b.run.0
    → Falls (total_at speed (take (i + 1) cs)) x (line (a.value.0 + b.value.0) (a.slope + b.slope) run)
falls_more cs speed i {x} {run} {a} {b} low is_a is_b some in_a in_b =
    record {
      some = some;
      within = let w = is_a.within in omega arith;
      on = λ j few.
          omega (
            arith,
            total_more cs i speed (x - j) low refl refl,
            is_a.on j (omega arith),
            is_b.on j (omega arith),
            add-mul a.slope b.slope j,
          );
    }
