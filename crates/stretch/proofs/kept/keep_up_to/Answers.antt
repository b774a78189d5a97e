use Prim.Native.Nat.{◌-◌, ◌<◌, ◌≤◌}
use mathlib.Core.Path.{◌≡◌, ◌∙◌}
use native.Mathlib.Omega.{arith}
use Rattle.std.proofs.lemmas.Grind.{common_steps}
use Rattle.curve.specs.Tables.{table_curve}
use Rattle.demand.proofs.TableDemand.{fitting}
use Rattle.places.specs.OneStretch.{end_of}
use Rattle.places.specs.Places.{stretch_in}
use Rattle.stretch.proofs.Period.{start_there}
use Rattle.stretch.proofs.Places.{next_kept, next_end}
use Rattle.stretch.proofs.kept.keep_up_to.Goals as goal

pub clock-due-requires : goal.clock-due-requires
clock-due-requires c = (fitting c.args.chart.now c.args.speed c.requires.at_speed.0).deadline

pub runs-requires : goal.runs-requires
runs-requires c = (fitting c.args.chart.now c.args.speed c.requires.at_speed.0).length

pub overflow_sub-start : goal.overflow_sub-start
overflow_sub-start c = start_there c.args.chart.now c.args.speed c.requires.at_speed c.clock-due.ensures c.runs.ensures

pub overflow_add-from : goal.overflow_add-from
unfolding table_curve
overflow_add-from c =
    let low : c.min-used.result ≤ 64 = omega arith in
    let within = (c.requires.kept.each (c.min-used.result - 1) (omega arith)).within in
    let period = (fitting c.args.chart.now c.args.speed c.requires.at_speed.0).period in
    omega arith

pub loop-from-preserved : goal.loop-from-preserved
loop-from-preserved c =
    let kept = c.loop-from.kept in
    let made = c.stretch_from-s in
    let low : kept.used < 64 = grind (arith, common_steps) in
    let at : 0 < kept.used → made.result.from.0 ≡ end_of (stretch_in kept (kept.used - 1)) =
    λ some. made.ensures.at.0 ∙ c.loop-from.invariant.0 some low in
    let next = c.keep_next.ensures in
    let end = next_end kept c.keep_next.new.self made.result low at next in
    (λ some few. omega (arith, made.ensures.at.0, end), next_kept c.loop-from.invariant.1 low made.ensures.line at next)
