-- `piece::ahead` meets its contract: the piece that is ahead stays so, or keeps its lead for a while, or is passed within the tick.
use native.Mathlib.Omega.{arith}
use Rattle.piece.proofs.Pieces.{kept}
use Rattle.piece.proofs.ahead.Goals as goal

pub returns : goal.returns
returns c =
    λ f g y is_high is_low.
    kept c.args.high c.args.low c.requires is_high is_low (omega arith) c.min.result (omega arith) (omega arith)
