-- What remains of a job, as pieces.
use Prim.Native.Nat.{ℕ, ◌-◌, ◌*◌, ◌≤◌, ◌<◌}
use mathlib.Core.Path.{◌≡◌}
use native.Mathlib.Omega.{arith}
use Rattle.piece.specs.Piece.{Linear}
use Rattle.piece.proofs.Pieces.{line}
use Rattle.curve.specs.Tables.{job_left}

module _ (q time due x : ℕ) (pos : 0 < x) {whole end : ℕ} (is_whole : whole ≡ q * time) (is_end : end ≡ q * due) where
  abbrev remains : ℕ → ℕ
  remains y = job_left q y time due

  -- behind its end
  pub behind_end : end < x → Linear remains x (line 0 0 (x - end))
  unfolding job_left
  behind_end past = record { some = omega arith; within = omega arith; on = λ j l. omega arith }

  -- before its start
  pub before_start : whole ≤ end - x → Linear remains x (line whole 0 x)
  unfolding job_left
  before_start all = record { some = pos; within = omega arith; on = λ j l. omega arith }

  -- in between
  pub in_between : (run : ℕ) → x ≤ end → 0 < run → run ≤ x → run ≤ whole - (end - x) → Linear remains x (line (end - x) 1 run)
  unfolding job_left
  in_between run after some low part = record { some = some; within = low; on = λ j l. omega arith }
