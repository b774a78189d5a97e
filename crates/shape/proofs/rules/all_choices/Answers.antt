use Prim.Native.Nat.{◌<◌}
use mathlib.Core.Path.{◌≡◌, sym, ◌∙◌}
use mathlib.Core.Bool.{true}
use Rattle.model.specs.Limits.{most_vertices}
use Rattle.model.specs.Graph.{G3}
use Rattle.model.specs.Records.{shape_at}
use Rattle.shape.specs.Choices.{choices_keep}
use Rattle.shape.proofs.Edges.{upward}
use Rattle.shape.proofs.RoleWords.{start_below_lem, ends_small}
use Rattle.shape.proofs.Walk.{Begun, begun, takes, passed_none, passed_more, passed_all, not_passed}
use Rattle.shape.proofs.Choices.{rules_at, split_broken, split_kept}
use Rattle.shape.proofs.ArmRows.{two_out}
use Rattle.shape.proofs.rules.all_choices.Goals.{After-choice, After-g3, After-lowest-s, After-mate_at-end, Else-not-g3}
use Rattle.shape.proofs.rules.all_choices.Goals as goal

-- the start just taken
here : (c : After-lowest-s) → Begun (shape_at c.args.task.set.now c.args.task.place) c.loop-left.left c.lowest-s.result
here c = begun c.loop-left-test.true c.lowest-s.ensures.found c.lowest-s.ensures.within c.loop-left.invariant.inside

small : (c : After-mate_at-end) → (c.lowest-s.result < most_vertices) × (c.mate_at-end.result < most_vertices)
small c = ends_small c.args.task.tabled c.lowest-s.result (here (goal.at.After-mate_at-end c).After-lowest-s).start c.mate_at-end.ensures

-- the answer of g3 is the rule's, and so is that of choice where G3 holds
splits_here : (c : After-g3) → c.g3.result ≡ G3 (shape_at c.args.task.set.now c.args.task.place) c.lowest-s.result
splits_here c = c.g3.ensures _ _ (upward c.args.task.tabled) c.requires.links_of (sym c.mate_at-end.ensures)

split : (c : Else-not-g3) → G3 (shape_at c.args.task.set.now c.args.task.place) c.lowest-s.result ≡ true
split c = sym (splits_here (goal.at.Else-not-g3 c).After-g3) ∙ c.if-not-g3.false

keeps_here : (c : After-choice) → c.choice.result ≡ rules_at (shape_at c.args.task.set.now c.args.task.place) c.lowest-s.result
keeps_here c =
    let t = shape_at c.args.task.set.now c.args.task.place in
    let up = upward c.args.task.tabled in
    let end = sym c.mate_at-end.ensures in
    let three = split (goal.at.After-choice c).Else-not-g3 in
    let arm = c.arm_pair.ensures t _ up c.requires.links_of.out end in
    split_kept t c.lowest-s.result three
    (c.choice.ensures t _ up c.requires.links_of end three (record { lower = arm 0; higher = arm 1 }))

pub loop-left-init : goal.loop-left-init
loop-left-init c =
    let t = shape_at c.args.task.set.now c.args.task.place in passed_none t (rules_at t) c.args.starts c.requires.are_starts

pub mate_at-end-requires : goal.mate_at-end-requires
mate_at-end-requires c = start_below_lem c.args.task.tabled c.lowest-s.result (here c).start

pub g3-requires : goal.g3-requires
g3-requires c = small c

pub returns-then-not-g3 : goal.returns-then-not-g3
unfolding choices_keep
returns-then-not-g3 c =
    let t = shape_at c.args.task.set.now c.args.task.place in
    not_passed t (rules_at t) c.lowest-s.result (here (goal.at.returns-then-not-g3 c).After-lowest-s).start
    (split_broken t c.lowest-s.result (sym (splits_here (goal.at.returns-then-not-g3 c).After-g3) ∙ c.if-not-g3.true))

pub arm_pair-requires : goal.arm_pair-requires
arm_pair-requires c = (
  (here (goal.at.arm_pair-requires c).After-lowest-s).small,
  two_out c.args.links.now.out (upward c.args.task.tabled) c.requires.links_of.out c.lowest-s.result (split c),
)

pub choice-requires : goal.choice-requires
choice-requires c = small (goal.at.choice-requires c).After-mate_at-end

pub returns-then-not-choice : goal.returns-then-not-choice
unfolding choices_keep
returns-then-not-choice c =
    let t = shape_at c.args.task.set.now c.args.task.place in
    not_passed t (rules_at t) c.lowest-s.result (here (goal.at.returns-then-not-choice c).After-lowest-s).start
    (sym (keeps_here (goal.at.returns-then-not-choice c).After-choice) ∙ c.if-not-choice.true)

pub loop-left-preserved : goal.loop-left-preserved
loop-left-preserved c =
    passed_more c.loop-left.invariant
    (takes (here (goal.at.loop-left-preserved c).After-lowest-s).member c.lowest-s.ensures.found c.rest-left.ensures.others)
    (sym (keeps_here (goal.at.loop-left-preserved c).After-choice) ∙ c.if-not-choice.false)

pub returns : goal.returns
unfolding choices_keep
returns c = passed_all c.loop-left.invariant c.loop-left-test.false
