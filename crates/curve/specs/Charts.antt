-- The curves that charts make.
use Rattle.std.specs.Prelude.{List, map}
use Rattle.model.specs.Curve.{Curve}
use Rattle.curve.specs.declared.chart.Chart.{Chart}
use Rattle.curve.specs.Tables.{table_curve}

abbrev pub chart_curve : Chart → Curve
chart_curve c = table_curve c.figures c.jobs

abbrev pub curves : List Chart → List Curve
curves charts = map chart_curve charts

-- a curve with no figures, where a list of curves has ended
abbrev pub no_curve : Curve
no_curve = record { deadline = 0; period = 0; length = 0; volume = 0; remains = λ q x. 0 }
