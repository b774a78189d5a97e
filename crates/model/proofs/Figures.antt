-- Length, volume and remaining work of a task, over every way the choices can fall, as the code works them out: latest ends in one
-- pass, and one walk that takes the larger of the arms.
use Prim.Native.Nat.{ℕ, ◌-◌}
use mathlib.Core.Path.{◌≡◌, ◌∙◌}
use Rattle.model.specs.Graph.{size}
use Rattle.model.specs.Realization.{Task, time, work, rdem, volume, len}
use Rattle.model.proofs.Arms.{Drawn, Arms}
use Rattle.model.proofs.ArmFacts.{arms_of}
use Rattle.model.proofs.Nesting.{nesting}
use Rattle.model.proofs.Walk.{walk}
use Rattle.model.proofs.LargerArm.{larger_arms}
use Rattle.model.proofs.Moment.{latest, share, moment, length_is}

module _ (t : Task) (d : Drawn t.shape) where
  arms_known : Arms t.shape
  arms_known = arms_of t.shape d

  -- for fixed weights the walk is the largest over the ways
  pub remaining_walks : (q x : ℕ) → rdem t q x ≡ walk t.shape (share t q x)
  remaining_walks q x =
      moment t arms_known q x ∙ larger_arms t.shape arms_known (nesting t.shape arms_known) (share t q x)

  pub volume_walks : volume t ≡ walk t.shape (time t)
  unfolding volume work
  volume_walks = larger_arms t.shape arms_known (nesting t.shape arms_known) (time t)

  pub length_ends_last : len t ≡ latest t (size t.shape - 1)
  length_ends_last = length_is t arms_known d.filled
