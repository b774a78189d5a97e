-- What makes one curve easier than another.
use Prim.Native.Nat.{ℕ, ◌*◌, ◌≤◌}
use mathlib.Core.Path.{subst}
use mathlib.Core.List.{List, [], ◌∷◌}
use native.Mathlib.Omega.{arith}
use Rattle.model.specs.Curve.{Curve}
use Rattle.model.specs.Lawful.{Lawful}

-- no more is left than there was to run
pub remains_most : (q : ℕ) {c : Curve} → Lawful c → (x : ℕ) → c.remains q x ≤ q * c.volume
remains_most q {c} law x = subst (λ k. c.remains q x ≤ k) (law.whole q) (law.falls q 0 x (omega arith))

pub record Eased (old new : Curve) : Type 0 where
  pub deadline : old.deadline ≤ new.deadline
  pub period : old.period ≤ new.period
  pub length : new.length ≤ old.length
  pub volume : new.volume ≤ old.volume
  pub remains : (q x : ℕ) → new.remains q x ≤ old.remains q x

pub data EasedList : List Curve → List Curve → Type 0 where
  nothing : EasedList [] []
  dropped : {c : Curve} {old new : List Curve} → EasedList old new → EasedList (c ∷ old) new
  kept : {c d : Curve} {old new : List Curve} → Eased c d → EasedList old new → EasedList (c ∷ old) (d ∷ new)
