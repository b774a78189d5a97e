-- `rough::clear_roughly` meets its contract.
use Prim.Native.Nat.{◌-◌}
use mathlib.Core.Path.{sym}
use mathlib.Core.List.{map}
use native.Mathlib.Omega.{arith}
use lib.ListN.{length}
use Rattle.curve.proofs.Telling.{told_count}
use Rattle.rough.proofs.RoughLook.{jump_room, jumps}
use Rattle.rough.proofs.clear_roughly.Goals as goal

pub low_tick-low-requires : goal.low_tick-low-requires
low_tick-low-requires g c =
    let a = c.args in
    let told = map g.T.Figured.told a.load.now.tasks.now in
    let count = told_count g.T.Figured.told a.load.now.tasks.now in (
      c.bound_of-bound.ensures.1,
      jump_room told a.load.now.rack.speed (c.loop-left.left - 1) (length told) (omega arith) (omega (arith, count, c.args.load.now.few)) c.args.load.now.in_range
          c.args.load.now.on_rack.speed (omega (arith, c.loop-left.invariant.0, c.requires)) a.load.now.rack.m c.args.load.now.on_rack.few
          (rw (sym count) at c.most_at-w.ensures) c.bound_of-bound.ensures.0,
    )

pub loop-left-preserved : goal.loop-left-preserved
loop-left-preserved g c =
    let a = c.args in
    let count = told_count g.T.Figured.told a.load.now.tasks.now in (
      omega (arith, c.loop-left.invariant.0, c.if-left-low.false),
      λ cs all.
          jumps a.load.now.rack all c.args.load.now.timely c.args.load.now.on_rack c.bound_of-bound.ensures.0 c.bound_of-bound.ensures.1
          (rw (sym count) at c.most_at-w.ensures) c.low_tick-low.ensures c.if-left-low.false (c.loop-left.invariant.1 cs all),
    )
