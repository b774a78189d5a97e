use mathlib.Core.Path.{sym, ◌∙◌, ap}
use Rattle.model.specs.Graph.{mate}
use Rattle.model.specs.Records.{shape_at}
use Rattle.shape.proofs.RoleWords.{start_below_lem, end_below, ends_small}
use Rattle.shape.proofs.Walk.{Begun, begun, takes}
use Rattle.shape.proofs.Pairing.{named_none, named_more, named_all, not_back}
use Rattle.shape.proofs.rules.g2.Goals.{After-lowest-s}
use Rattle.shape.proofs.rules.g2.Goals as goal

-- the start just taken
here : (c : After-lowest-s) → Begun (shape_at c.args.task.set.now c.args.task.place) c.loop-left.left c.lowest-s.result
here c = begun c.loop-left-test.true c.lowest-s.ensures.found c.lowest-s.ensures.within c.loop-left.invariant.inside

pub loop-left-init : goal.loop-left-init
loop-left-init c = named_none (shape_at c.args.task.set.now c.args.task.place) c.args.roles.starts c.requires.are_starts

pub mate_at-end-requires : goal.mate_at-end-requires
mate_at-end-requires c = start_below_lem c.args.task.tabled c.lowest-s.result (here c).start

pub mate_at-requires : goal.mate_at-requires
mate_at-requires c =
    end_below c.args.task.tabled c.lowest-s.result (here (goal.at.mate_at-requires c).After-lowest-s).start c.mate_at-end.ensures

pub returns-then-mate_at-s : goal.returns-then-mate_at-s
returns-then-mate_at-s c =
    let t = shape_at c.args.task.set.now c.args.task.place in
    not_back t c.lowest-s.result (here (goal.at.returns-then-mate_at-s c).After-lowest-s).start
    (λ e. c.if-mate_at-s.true (c.mate_at.ensures ∙ ap (mate t) c.mate_at-end.ensures ∙ e))

pub insert-named-requires : goal.insert-named-requires
insert-named-requires c =
    (ends_small c.args.task.tabled c.lowest-s.result (here (goal.at.insert-named-requires c).After-lowest-s).start c.mate_at-end.ensures).1

pub loop-left-preserved : goal.loop-left-preserved
loop-left-preserved c =
    named_more c.loop-left.invariant c.mate_at-end.result c.insert-named.result
    (takes (here (goal.at.loop-left-preserved c).After-lowest-s).member c.lowest-s.ensures.found c.rest-left.ensures.others)
    c.mate_at-end.ensures (sym c.mate_at.ensures ∙ c.if-mate_at-s.false) c.insert-named.ensures

pub returns : goal.returns
returns c =
    named_all c.loop-left.invariant c.args.roles.ends c.loop-left-test.false c.requires.are_ends
