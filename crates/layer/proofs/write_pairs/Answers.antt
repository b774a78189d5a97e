-- `layer::write_pairs` meets its contract.
use Prim.Native.Nat.{◌*◌, ◌≤◌, ◌<◌}
use mathlib.Core.Path.{◌≡◌}
use native.Mathlib.Omega.{arith}
use lib.ListN.{get_or, length-set}
use Rattle.model.specs.Limits.{largest_part}
use Rattle.model.proofs.Speeds.{speed_kept}
use Rattle.curve.specs.Charts.{chart_curve}
use Rattle.curve.specs.Tables.{table_curve}
use Rattle.layer.proofs.Pairs.{behind_none, behind_all, Turn, slope_fits, none_written, all_written, longer_fits, pair_longer, place_left, pair_new, ticks_fit}
use Rattle.layer.proofs.write_pairs.Goals.{After-remaining-piece, Joined-else-at-pairs, Start, Then-at-pairs, else-at-pairs-via-then-at-pairs+else-table-at, else-at-pairs-via-else-at-pairs, then-at-pairs+then-table-at, else-at-pairs}
use Rattle.layer.proofs.write_pairs.Goals as goal

slow : (c : Start) → c.args.speed.q ≤ largest_part
slow c = (speed_kept c.args.speed.p c.args.speed.q c.requires.speed_in_range).2

pub runs-x-requires : goal.runs-x-requires
runs-x-requires c = ticks_fit c.args.chart.now c.args.speed c.requires.speed_in_range

pub loop-x-init : goal.loop-x-init
unfolding table_curve
loop-x-init c =
    let args = c.args in
    (omega arith, none_written args.table.now args.pairs (behind_none _ _ c.runs-x.ensures))

-- the piece at tick x
turn :
    (c : After-remaining-piece)
    → Turn (chart_curve c.args.chart.now) c.args.speed.q c.loop-x.x c.remaining-piece.result
turn c = record { within = c.loop-x.invariant.0; line = c.remaining-piece.ensures }

pub overflow_cast-width : goal.overflow_cast-width
overflow_cast-width c =
    let start = (goal.at.overflow_cast-width c).Start in
    omega (arith, slope_fits (turn (goal.at.overflow_cast-width c).After-remaining-piece) c.args.chart.now.sheet.curve (slow start))

pub overflow_add-table-then-table-at : goal.overflow_add-table-then-table-at
overflow_add-table-then-table-at c =
    let at = (goal.at.overflow_add-table-then-table-at c).After-remaining-piece in
    let start = (goal.at.overflow_add-table-then-table-at c).Start in
    let written = at.loop-x.invariant.1 in
    record { fits = longer_fits (turn at) start.requires.room written c.args.chart.now.sheet.curve (slow start) (omega arith) }

-- the first pair, if there is one, has another width
other :
    (c : Joined-else-at-pairs)
    → let loop = c.loop-x in
    loop.at < c.args.pairs
    → get_or loop.table (2 * loop.at) 0 ≡ c.remaining-piece.result.slope → ⊥
other c low same = elim c.else-at-pairs.branch [
  | else-at-pairs-via-then-at-pairs+else-table-at w ↦ omega arith
  | else-at-pairs-via-else-at-pairs w ↦ omega arith
]

pub overflow_sub-at : goal.overflow_sub-at
overflow_sub-at c =
    let at = (goal.at.overflow_sub-at c).After-remaining-piece in
    place_left (turn at) c.requires.room at.loop-x.invariant.1 (other c) c.requires.counted

pub bounds-table-at-else-at-pairs : goal.bounds-table-at-else-at-pairs
bounds-table-at-else-at-pairs c = omega (arith, overflow_sub-at c)

pub bounds-table-at-else-at-pairs-2 : goal.bounds-table-at-else-at-pairs-2
bounds-table-at-else-at-pairs-2 c = simp length-set (omega (arith, overflow_sub-at c))

pub loop-x-preserved : goal.loop-x-preserved
loop-x-preserved c =
    let at = (goal.at.loop-x-preserved c).After-remaining-piece in
    let room = c.requires.room in
    let written = at.loop-x.invariant.1 in (
      omega arith,
      elim c.if-at-pairs.branch [
        | then-at-pairs+then-table-at w ↦
            rw (w.table-is, w.at-is) (pair_longer (turn at) room written (omega arith) w.if-table-at.true)
        | else-at-pairs w ↦
            -- the first pair, if there is one, has another width
            let another : c.loop-x.at < c.args.pairs → get_or c.loop-x.table (2 * c.loop-x.at) 0 ≡ c.remaining-piece.result.slope → ⊥ =
            λ low same.
            elim w.else-at-pairs.branch [
              | else-at-pairs-via-then-at-pairs+else-table-at v ↦ omega arith
              | else-at-pairs-via-else-at-pairs v ↦ omega arith
            ] in
            let some : 0 < c.loop-x.at = place_left (turn at) room written another c.requires.counted in
            rw (w.table-is, w.at-is) (pair_new (turn at) room written another (omega arith))
      ],
    )

pub returns : goal.returns
returns c = all_written c.loop-x.invariant.1 (behind_all _ _ (omega arith)) c.requires.counted
