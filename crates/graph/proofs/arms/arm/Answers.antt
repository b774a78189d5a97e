use native.Mathlib.Omega.{arith}
use Rattle.graph.proofs.Taken.{Taken, taken}
use Rattle.graph.proofs.ArmWords.{begins, grows, turn, done}
use Rattle.graph.proofs.arms.arm.Goals.{After-insert-seen, After-lowest-v, At-loop-next}
use Rattle.graph.proofs.arms.arm.Goals as goal

-- the vertex just taken
here : (c : After-lowest-v) → Taken c.loop-next.next c.lowest-v.result
here c = taken c.loop-next-test.true c.lowest-v.ensures.found c.lowest-v.ensures.within

pub loop-next-init : goal.loop-next-init
loop-next-init c =
    let args = c.args in
    begins args.out.now args.first args.shut c.minus-next.result c.minus-next.ensures

pub loop-next-smaller : goal.loop-next-smaller
loop-next-smaller c =
    let v = here (goal.at.loop-next-smaller c).After-lowest-v in
    let args = c.args in
    omega (
      arith,
      c.insert-seen.type_inv,
      grows args.out.now args.first args.shut c.loop-next.invariant c.lowest-v.result v.small v.member
          c.insert-seen.result c.insert-seen.ensures,
    )

pub loop-next-preserved : goal.loop-next-preserved
loop-next-preserved c =
    let v = here (goal.at.loop-next-preserved c).After-lowest-v in
    let args = c.args in
    turn args.out.now args.first args.shut c.loop-next.invariant c.lowest-v.result v.small v.member
    c.insert-seen.result c.insert-seen.ensures
    c.union.result c.minus-next-in-loop-next.result c.union.ensures c.minus-next-in-loop-next.ensures

pub returns : goal.returns
returns c =
    let args = c.args in
    done args.out.now args.first args.shut c.loop-next.invariant c.loop-next-test.false c.minus.result c.minus.ensures
