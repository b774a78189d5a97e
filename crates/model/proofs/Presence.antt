-- Who is present in a realization: exactly the vertices whose arms are all taken; and what a way may take at a vertex.
use Prim.Native.Nat.{ℕ, ◌<◌}
use mathlib.Core.Path.{◌≡◌, ap, subst}
use mathlib.Core.Bool.{true, false, cond, not}
use mathlib.Core.Logic.{inl, inr}
use lib.Dec.{eqb}
use borrow.Author.Tests.{eqb-true, eqb-false, not-true, not-false}
use Rattle.model.specs.Graph.{Shape, size, starts, arms, in_arm}
use Rattle.model.specs.Realization.{Way, taken, options, present}
use Rattle.model.proofs.Ranges.{neither, every_fails, or_cases, not_both, decided, implied, every_at}
use Rattle.model.proofs.Ways.{IsWay}
use Rattle.model.proofs.Arms.{Arms}

-- an arm that holds a present vertex is taken
pub present_taken :
    (t : Shape) → Arms t → (w : Way) (v s i : ℕ) → present t w v ≡ true → starts t s ≡ true → in_arm t s i v ≡ true
    → i ≡ taken w s
unfolding present
present_taken t a w v s i h st inside =
    let all = implied (starts t s) _ (every_at (size t) _ h s (a.start_below s st)) st in
    elim (or_cases (eqb i (taken w s)) (not (in_arm t s i v)) (every_at (arms t s) _ all i (a.arm_counted s i v inside))) [
      | inl e ↦ eqb-true i (taken w s) e
      | inr out ↦ absurd (not_both (in_arm t s i v) inside (not-true (in_arm t s i v) out))
    ]

-- an absent vertex is in an arm that is not taken
pub absent_untaken :
    (t : Shape) (w : Way) (v : ℕ) → present t w v ≡ false
    → (s i : ℕ) × (starts t s ≡ true) × (in_arm t s i v ≡ true) × (i ≡ taken w s → ⊥)
unfolding present
absent_untaken t w v h =
    let f = every_fails (size t) _ h in
    let s = f.0 in
    let g = neither (not (starts t s)) _ f.2 in
    let b = every_fails (arms t s) _ g.1 in
    let c = neither (eqb b.0 (taken w s)) (not (in_arm t s b.0 v)) b.2 in
    (s, b.0, not-false (starts t s) g.0, not-false (in_arm t s b.0 v) c.1, eqb-false b.0 (taken w s) c.0)

-- a vertex is present if each arm that holds it is taken
pub taken_present :
    (t : Shape) (w : Way) (v : ℕ) → ((s i : ℕ) → starts t s ≡ true → in_arm t s i v ≡ true → i ≡ taken w s)
    → present t w v ≡ true
taken_present t w v h =
    elim (decided (present t w v)) [
      | inl yea ↦ yea
      | inr nay ↦ let r = absent_untaken t w v nay in absurd (r.4 (h r.0 r.1 r.2 r.3))
    ]

-- at a start a way takes one of the arms
pub options_start : (t : Shape) (s : ℕ) → starts t s ≡ true → options t s ≡ arms t s
unfolding options
options_start t s st = ap (λ b. cond b (arms t s) 1) st

pub options_plain : (t : Shape) (s : ℕ) → starts t s ≡ false → options t s ≡ 1
unfolding options
options_plain t s st = ap (λ b. cond b (arms t s) 1) st

pub taken_arm_lem : (t : Shape) → Arms t → (w : Way) → IsWay t w → (s : ℕ) → starts t s ≡ true → taken w s < arms t s
taken_arm_lem t a w h s st = subst (λ k. taken w s < k) (options_start t s st) (h.chosen s (a.start_below s st))
