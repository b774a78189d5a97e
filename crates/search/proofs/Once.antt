-- A search for an overrun has one answer.
use Prim.Native.Nat.{ℕ}
use mathlib.Core.Path.{◌≡◌, refl, sym, ◌∙◌, ap, ap₂}
use mathlib.Core.List.{List}
use native.Mathlib.Omega.{arith}
use Rattle.std.specs.Prelude.{Option, Some, None}
use Rattle.model.specs.Curve.{Curve}
use Rattle.model.proofs.Ranges.{not_both}
use Rattle.model.proofs.Verdicts.{first_le}
use Rattle.units.specs.declared.Rack.{Rack}
use Rattle.units.specs.Rack.{total_at, overruns_on}
use Rattle.search.specs.Searched.{SearchedBelow}
use Rattle.search.specs.declared.Overrun.{Overrun}

-- an overrun of a tick and a demand
abbrev over : ℕ → ℕ → Overrun
over x w = record { x = record { 0 = x }; w = record { 0 = w } }

module _ (rack : Rack) (cs : List Curve) (end : ℕ) where
  pub searched_once : (r s : Option Overrun) → SearchedBelow rack cs end r → SearchedBelow rack cs end s → r ≡ s
  searched_once None None none none' = refl
  searched_once None (Some first) none found = absurd (not_both (overruns_on rack cs first.x.0) found.1 (none first.x.0 found.0))
  searched_once (Some first) None found none = absurd (not_both (overruns_on rack cs first.x.0) found.1 (none first.x.0 found.0))
  searched_once (Some a) (Some b) found other =
      let test = overruns_on rack cs in
      let same : a.x.0 ≡ b.x.0 =
      omega (arith, first_le test a.x.0 b.x.0 found.2 other.1, first_le test b.x.0 a.x.0 other.2 found.1) in
      ap₂ (λ x w. Some (over x w)) same (found.3 ∙ ap (total_at rack.speed cs) same ∙ sym other.3)
