-- `piece::larger_of` meets its contract: whichever is ahead, the larger is the same.
use native.Mathlib.Nat.{max_comm}
use Rattle.piece.proofs.Pieces.{alike}
use Rattle.piece.proofs.larger_of.Goals as goal

pub returns-else-b-a : goal.returns-else-b-a
returns-else-b-a c = λ f g y is_a is_b. alike (c.ahead-else-b-a.ensures g f y is_b is_a) (λ x. max_comm (g x) (f x))
