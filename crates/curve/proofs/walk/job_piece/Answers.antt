-- `curve::walk::job_piece` meets its contract: each way out is a law of what remains of a job.
use native.Mathlib.Omega.{arith}
use Rattle.curve.proofs.JobPieces.{behind_end, before_start, in_between}
use Rattle.curve.proofs.walk.job_piece.Goals.{After-runs-end}
use Rattle.curve.proofs.walk.job_piece.Goals as goal

pub returns-then-end-x : goal.returns-then-end-x
returns-then-end-x c =
    let args = c.args in
    behind_end args.speed.q args.time.0 args.due.0 args.x.0 (omega arith)
    c.holds-whole.ensures c.runs-end.ensures (omega arith)

pub returns-then-whole-left : goal.returns-then-whole-left
returns-then-whole-left c =
    let args = c.args in
    before_start args.speed.q args.time.0 args.due.0 args.x.0 (omega arith)
    c.holds-whole.ensures c.runs-end.ensures (omega arith)

pub returns : goal.returns
returns c =
    let args = c.args in
    in_between args.speed.q args.time.0 args.due.0 args.x.0 (omega arith)
    c.holds-whole.ensures c.runs-end.ensures
    c.min.result (omega arith) (omega (arith, c.min.ensures)) (omega (arith, c.min.ensures)) (omega (arith, c.min.ensures))
