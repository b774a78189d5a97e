-- `curve::chart::Chart::empty` meets its contract.
use Rattle.curve.proofs.Empty.{empty_sheet}
use Rattle.curve.proofs.chart.Chart.empty.Goals as goal

pub invariant_of-result : goal.invariant_of-result
invariant_of-result c = record { sheet = empty_sheet }
