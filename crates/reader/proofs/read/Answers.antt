use mathlib.Core.Path.{sym, ap}
use native.Mathlib.Omega.{arith}
use lib.ListN.{length}
use Rattle.reader.proofs.Progress.{ragged, none, turn}
use Rattle.reader.proofs.read.Goals as goal

pub returns-then-set-ne0 : goal.returns-then-set-ne0
returns-then-set-ne0 c = sym (ragged _ c.if-set-ne0.true)

pub loop-place-init : goal.loop-place-init
loop-place-init c = rw c.new-found.ensures (none _ c.if-set-ne0.false)

pub loop-place-preserved : goal.loop-place-preserved
loop-place-preserved c =
    rw c.push.ensures (turn c.loop-place.invariant c.loop-place-test.true (omega (arith, ap length c.list.ensures)) c.in_ok-next.ensures)
