-- One task of a set, by its chart: its figures, whether it fits its deadline, and its demand.
use Prim.Native.Nat.{ℕ}
use mathlib.Core.Path.{◌≡◌, ap}
use mathlib.Core.Bool.{true, false}
use mathlib.Core.List.{List}
use Rattle.model.specs.Curve.{Curve, curve_of, demand, fits}
use Rattle.model.specs.Records.{task_at}
use Rattle.model.specs.Entries.{task_is, Figures, figures_for, no_demand, demanded_for}
use Rattle.curve.specs.declared.chart.Chart.{Chart}
use Rattle.curve.specs.Charts.{chart_curve}
use Rattle.curve.specs.Tables.{table_curve}

-- the chart of the task at a place
module _ (bytes : List ℕ) (place : ℕ) (chart : Chart) (told : chart_curve chart ≡ curve_of (task_at bytes place)) where
  pub chart_figures :
      record { number = 0; place = 0; length = chart.figures.length.0; volume = chart.figures.volume.0 } ≡ figures_for bytes (task_is place)
  unfolding table_curve curve_of figures_for
  chart_figures =
      let given : Curve → Figures = λ c. record { number = 0; place = 0; length = c.length; volume = c.volume } in
      ap given told

  module _ (p q x : ℕ) where
    -- the task does not fit its deadline
    pub chart_dense : fits p q (chart_curve chart) ≡ false → no_demand 8 place ≡ demanded_for bytes (task_is place) p q x
    unfolding demanded_for
    chart_dense dense = rw (← told, dense)

    -- it does
    pub chart_demand :
        {work : ℕ} → fits p q (chart_curve chart) ≡ true → work ≡ demand p q (chart_curve chart) x
        → record { number = 0; place = 0; work = work } ≡ demanded_for bytes (task_is place) p q x
    unfolding demanded_for
    chart_demand fit works = rw (← told, fit, works)
