-- `layer::pair_count` meets its contract.
use Prim.Native.Nat.{◌≤◌}
use mathlib.Core.Logic.{inl, inr}
use native.Mathlib.Omega.{arith}
use Rattle.model.specs.Limits.{largest_part}
use Rattle.model.proofs.Speeds.{speed_kept}
use Rattle.curve.specs.Charts.{chart_curve}
use Rattle.curve.specs.Tables.{table_curve}
use Rattle.layer.proofs.Pairs.{behind_fits, Turn, none_counted, all_counted, one_new, one_longer, ticks_fit}
use Rattle.layer.proofs.pair_count.Goals.{After-remaining-piece, Start, then-pairs-eq0, else-pairs-eq0+else-piece-first}
use Rattle.layer.proofs.pair_count.Goals as goal

slow : (c : Start) → c.args.speed.q ≤ largest_part
slow c = (speed_kept c.args.speed.p c.args.speed.q c.requires).2

pub runs-x-requires : goal.runs-x-requires
runs-x-requires c = ticks_fit c.args.chart.now c.args.speed c.requires

pub loop-x-init : goal.loop-x-init
unfolding table_curve
loop-x-init c = (omega arith, none_counted c.runs-x.ensures)

-- the piece at tick x
turn :
    (c : After-remaining-piece)
    → Turn (chart_curve c.args.chart.now) c.args.speed.q c.loop-x.x c.remaining-piece.result
turn c = record { within = c.loop-x.invariant.0; line = c.remaining-piece.ensures }

pub overflow_add-pairs : goal.overflow_add-pairs
overflow_add-pairs c =
    let start = (goal.at.overflow_add-pairs c).Start in
    omega (arith, behind_fits _ _ c.loop-x.x c.args.chart.now.sheet.curve (slow start))

pub loop-x-preserved : goal.loop-x-preserved
loop-x-preserved c =
    let at = (goal.at.loop-x-preserved c).After-remaining-piece in
    let counted = at.loop-x.invariant.1 in (
      omega arith,
      elim c.if-pairs-eq0.branch [
        | then-pairs-eq0 w ↦ rw (w.pairs-is, w.first-is)
            (one_new (turn at) counted
            (λ some same.
            elim w.then-pairs-eq0.either [
              | inl none ↦ omega arith
              | inr other ↦ other.1 same
            ]))
        | else-pairs-eq0+else-piece-first w ↦
            rw (w.pairs-is, w.first-is) (one_longer (turn at) counted (omega arith) w.if-piece-first.false)
      ],
    )

pub returns : goal.returns
returns c = all_counted c.loop-x.invariant.1 (omega arith)
