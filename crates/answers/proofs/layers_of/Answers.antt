-- `answers::layers_of` meets its contract: the chart makes the task's curve, whose pairs are counted before they are written.
use mathlib.Core.Path.{◌∙◌}
use native.Mathlib.Omega.{arith}
use Rattle.answers.proofs.Lent.{refuses, words_counted, too_short, all_fit}
use Rattle.answers.proofs.layers_of.Goals as goal

pub overflow_mul-pairs : goal.overflow_mul-pairs
overflow_mul-pairs c =
    omega (arith, words_counted _ c.args.speed.p _ c.chart_at.new.chart.sheet.curve c.requires c.pair_count-pairs.ensures)

pub returns-then-table-pairs : goal.returns-then-table-pairs
returns-then-table-pairs c =
    refuses _ c.no_layers.ensures
    ∙ too_short _ _ _ _ c.chart_at.ensures c.pair_count-pairs.ensures c.if-table-pairs.true

pub returns : goal.returns
returns c =
    all_fit _ _ _ _ c.chart_at.ensures c.pair_count-pairs.ensures c.if-table-pairs.false
    c.write_pairs.ensures
