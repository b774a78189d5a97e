use mathlib.Core.Path.{sym}
use Rattle.model.specs.Records.{shape_at}
use Rattle.shape.proofs.Edges.{upward}
use Rattle.shape.proofs.RoleWords.{start_below_lem}
use Rattle.shape.proofs.Walk.{Begun, begun, takes}
use Rattle.shape.proofs.Choices.{splits_at}
use Rattle.shape.proofs.ArmRows.{no_rows, two_out, row_more, all_rows}
use Rattle.shape.proofs.arms.arm_table.Goals.{After-lowest-s}
use Rattle.shape.proofs.arms.arm_table.Goals as goal

-- the start just taken
here : (c : After-lowest-s) → Begun (shape_at c.args.task.set.now c.args.task.place) c.loop-left.left c.lowest-s.result
here c = begun c.loop-left-test.true c.lowest-s.ensures.found c.lowest-s.ensures.within c.loop-left.invariant.inside

pub loop-left-init : goal.loop-left-init
loop-left-init c =
    no_rows (shape_at c.args.task.set.now c.args.task.place) c.roles_at-left.result.starts c.roles_at-left.ensures.starts

pub mate_at-requires : goal.mate_at-requires
mate_at-requires c = start_below_lem c.args.task.tabled c.lowest-s.result (here c).start

pub arm_pair-requires : goal.arm_pair-requires
arm_pair-requires c =
    let turn = (goal.at.arm_pair-requires c).After-lowest-s in
    let s = c.lowest-s.result in (
      (here turn).small,
      two_out c.args.out.now (upward c.args.task.tabled) c.requires.out_of s
          (splits_at (shape_at c.args.task.set.now c.args.task.place) c.requires.place_value s (here turn).start),
    )

pub loop-left-preserved : goal.loop-left-preserved
loop-left-preserved c =
    let turn = (goal.at.loop-left-preserved c).After-lowest-s in
    row_more c.loop-left.invariant c.arm_pair.result (here turn).small
    (takes (here turn).member c.lowest-s.ensures.found c.rest-left.ensures.others)
    (c.arm_pair.ensures (shape_at c.args.task.set.now c.args.task.place) _ (upward c.args.task.tabled) c.requires.out_of (sym c.mate_at.ensures))

pub returns : goal.returns
returns c = all_rows c.loop-left.invariant c.loop-left-test.false
