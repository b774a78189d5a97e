-- The core has one judgement of a list of tasks.
use Prim.Native.Nat.{ℕ, ◌≤◌, ◌<◌}
use mathlib.Core.Path.{◌≡◌, refl, sym, ◌∙◌}
use mathlib.Core.List.{List}
use mathlib.Core.Logic.{◌⊎◌, inl, inr}
use native.Mathlib.Omega.{arith}
use Rattle.model.specs.Limits.{most_cycle}
use Rattle.model.specs.Curve.{Curve, Outcome, accepted, dense, overrun, common_cycle}
use Rattle.model.proofs.Finding.{finds_once}
use Rattle.units.specs.declared.Speed.{Speed}
use Rattle.units.specs.declared.Rack.{Rack}
use Rattle.verdict.specs.Stands.{FindsOn, Stands}
use Rattle.verdict.specs.declared.Judgement.{Judgement}
use Rattle.verdict.specs.declared.Judgement.TheVariants.{LongCycle, Accepted, Dense, Overrun}

-- the judgement that tells what is found, and at which speed
abbrev told : Outcome → ℕ → ℕ → Judgement
told accepted p q = Accepted (record { p = p; q = q })
told (dense i) p q = Dense i
told (overrun x w) p q = Overrun (record { 0 = x }) (record { 0 = w }) (record { p = p; q = q })

module _ (call : Rack) (cs : List Curve) where
  -- a long cycle, or what is found in a cycle that is not
  split :
      (r : Judgement) → Stands call cs r
      → ((r ≡ LongCycle) × (most_cycle < common_cycle cs))
      ⊎ ((o : Outcome) × (speed : Speed) × (r ≡ told o speed.p speed.q) × (common_cycle cs ≤ most_cycle) × FindsOn call cs o speed)
  split LongCycle over = inl (refl, over)
  split (Accepted speed) right = inr (accepted, speed, refl, right.0, right.1)
  split (Dense i) right = inr (dense i, right.1.0, refl, right.0, right.1.1)
  split (Overrun x w speed) right = inr (overrun x.0 w.0, speed, refl, right.0, right.1)

  pub stands_once : (r s : Judgement) → Stands call cs r → Stands call cs s → r ≡ s
  stands_once r s one other =
      elim (split r one) [
        | inl a ↦ elim (split s other) [
          | inl b ↦ a.0 ∙ sym b.0
          | inr b ↦ absurd (omega (arith, a.1, b.3))
        ]
        | inr a ↦ elim (split s other) [
          | inl b ↦ absurd (omega (arith, a.3, b.1))
          | inr b ↦ a.2 ∙ finds_once told a.4 b.4 ∙ sym b.2
        ]
      ]
