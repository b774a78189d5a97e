-- `speeds::smallest_speed` meets its contract.
use Prim.Native.Nat.{◌+◌, ◌-◌, ◌*◌, ◌≤◌, ◌<◌}
use mathlib.Core.Path.{◌≡◌}
use native.Mathlib.Omega.{arith}
use Rattle.model.specs.Limits.{largest_part}
use Rattle.model.proofs.Speeds.{nearest_first, part_more, part_stays, nearest_stays, nearest_moves, nearest_smallest}
use Rattle.speeds.proofs.smallest_speed.Goals.{Joined-p-least, then-p-least, else-p-least, then-p-smallest, else-p-smallest}
use Rattle.speeds.proofs.smallest_speed.Goals as goal

pub loop-q-init : goal.loop-q-init
loop-q-init c = nearest_first _ _ c.requires.le_n

-- where the two ways meet, p is the least part of q that reaches the ratio
reached :
    (c : Joined-p-least) → let q = c.loop-q.q - 1 + 1 in
    let least = c.args.least in
    let r = c.if-p-least.p in
    (least.n * q ≤ r * least.d) × (r * least.d < least.n * q + least.d)
reached c =
    let near = c.loop-q.invariant in
    let turn : c.loop-q.q - 1 + 1 ≡ c.loop-q.q = omega arith in
    elim c.if-p-least.branch [
      | then-p-least w ↦ rw w.p-is (part_more _ _ c.requires.le_n near (rw turn w.if-p-least.true))
      | else-p-least w ↦ rw w.p-is (part_stays _ _ c.requires.le_n near (rw turn w.if-p-least.false))
    ]

pub loop-q-preserved : goal.loop-q-preserved
loop-q-preserved c =
    let turn = (goal.at.loop-q-preserved c).Joined-p-least in
    let near = c.loop-q.invariant in
    let last : c.loop-q.q - 1 + 1 ≡ c.loop-q.q = omega arith in
    let next : c.loop-q.q + 1 - 1 ≡ c.loop-q.q = omega arith in
    elim c.if-p-smallest.branch [
      | then-p-smallest w ↦
          rw (next, w.smallest-is)
          (rw last at (nearest_moves _ _ c.requires.le_n near turn.if-p-least.p (reached turn) (rw last w.if-p-smallest.true)))
      | else-p-smallest w ↦
          rw (next, w.smallest-is)
          (rw last at (nearest_stays _ _ c.requires.le_n near turn.if-p-least.p (reached turn) (rw last w.if-p-smallest.false)))
    ]

pub returns : goal.returns
returns c =
    let all : c.loop-q.q - 1 ≡ largest_part = omega arith in
    nearest_smallest _ _ c.requires.le_n (rw all at c.loop-q.invariant)
