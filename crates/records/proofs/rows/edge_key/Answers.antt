-- `records::rows::edge_key` meets its contract: its tests are those of the definition, with fields taken together.
use Prim.Native.Nat.{◌+◌, ◌*◌, ◌^◌}
use mathlib.Core.Bool.{true, false}
use native.Mathlib.Omega.{arith}
use Rattle.records.proofs.Judging.{key_is}
use Rattle.records.proofs.rows.edge_key.Goals as goal

pub returns-then-head-from : goal.returns-then-head-from
returns-then-head-from c =
    key_is c.args.set.now c.args.i c.args.n c.four-head.result c.four-from.result (c.four.result + 2 ^ 32 * c.four-2.result)
    c.requires.1 c.four-head.ensures.0 c.four-from.ensures.0 (omega arith) true c.if-head-from.true

pub returns-else-head-from : goal.returns-else-head-from
returns-else-head-from c =
    key_is c.args.set.now c.args.i c.args.n c.four-head.result c.four-from.result (c.four.result + 2 ^ 32 * c.four-2.result)
    c.requires.1 c.four-head.ensures.0 c.four-from.ensures.0 (omega arith) false c.if-head-from.false
