use mathlib.Core.Path.{ap}
use native.Mathlib.Omega.{arith}
use Rattle.shape.proofs.Edges.{none_linked, linked_more, all_linked}
use Rattle.shape.proofs.links.links_at.Goals as goal

pub loop-j-init : goal.loop-j-init
loop-j-init c = none_linked _ _

pub loop-j-preserved : goal.loop-j-preserved
loop-j-preserved c =
    linked_more c.args.task.tabled (ap (λ f. f.b) c.head-head.ensures) (omega (arith, ap (λ f. f.e) c.head-head.ensures)) c.edge_at-edge.ensures.edge
    c.insert.result c.insert-in-loop-j.result c.loop-j.invariant c.insert.ensures c.insert-in-loop-j.ensures

pub returns : goal.returns
returns c =
    all_linked c.args.task.set.now c.args.task.place (omega (arith, ap (λ f. f.e) c.head-head.ensures)) c.loop-j.invariant
