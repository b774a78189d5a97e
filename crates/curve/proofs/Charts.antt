-- The curves of charts: each keeps its limits, and stands where its chart does.
use Prim.Native.Nat.{ℕ, zero, suc, ◌<◌}
use mathlib.Core.Path.{◌≡◌, refl}
use mathlib.Core.List.{List, [], ◌∷◌}
use native.Mathlib.Omega.{arith}
use lib.ListN.{length, get_or, take}
use Rattle.model.specs.Curve.{Curve}
use Rattle.model.specs.Lawful.{Limited}
use Rattle.model.proofs.Lists.{Each}
use Rattle.curve.specs.declared.chart.Chart.{Chart}
use Rattle.curve.specs.Charts.{chart_curve, curves, no_curve}
use Rattle.curve.specs.Figured.{outline, InRange, AllInRange, AllFill}
use Rattle.curve.specs.Tables.{table_curve}
use Rattle.curve.proofs.Telling.{told_count, told_low, told_at}

-- as many as charts
pub curves_count : (charts : List Chart) → length (curves charts) ≡ length charts
curves_count charts = told_count chart_curve charts

pub curve_low : (charts : List Chart) {i : ℕ} → i < length charts → i < length (curves charts)
curve_low charts low = told_low chart_curve charts low

-- the curve where a chart stands
pub curve_at :
    (charts : List Chart) (i : ℕ) (c : Chart) → i < length charts → c ≡ get_or charts i c
    → get_or (curves charts) i no_curve ≡ chart_curve c
curve_at charts i c low is = told_at chart_curve charts low is

pub each_limited : (charts : List Chart) → Each Limited (curves charts)
each_limited [] = tt
each_limited (c ∷ charts) = (c.sheet.curve, each_limited charts)

pub limited_at : (charts : List Chart) (i : ℕ) → i < length charts → Limited (get_or (curves charts) i no_curve)
limited_at [] i low = absurd (omega (arith, low))
limited_at (c ∷ charts) zero low = c.sheet.curve
limited_at (c ∷ charts) (suc i) low = limited_at charts i (omega (arith, low))

-- so does each of the first
pub each_first : (P : Curve → Type 0) (n : ℕ) (cs : List Curve) → Each P cs → Each P (take n cs)
each_first P zero cs each = tt
each_first P (suc n) [] each = tt
each_first P (suc n) (c ∷ cs) each = (each.0, each_first P n cs each.1)

-- their figures keep their limits
pub limited_range : {c : Curve} → Limited c → InRange c
limited_range limited =
    record {
      some = limited.lawful.some;
      constrained = limited.lawful.constrained;
      period = limited.period;
      length = limited.length;
      volume = limited.volume;
    }

pub chart_range : (chart : Chart) → InRange (outline chart.figures)
unfolding table_curve
chart_range chart =
    let range = limited_range chart.sheet.curve in
    record { some = range.some; constrained = range.constrained; period = range.period; length = range.length; volume = range.volume }

pub charts_range : (charts : List Chart) → AllInRange (curves charts)
charts_range charts i low = limited_range (limited_at charts i (omega (arith, curves_count charts)))

-- and they are what their figures tell
pub charts_fill : (charts : List Chart) → AllFill (curves charts) (curves charts)
charts_fill charts =
    record {
      even = refl;
      each = λ i low. record {
        limited = limited_at charts i (omega (arith, curves_count charts));
        deadline = refl;
        period = refl;
        length = refl;
        volume = refl;
      };
    }
