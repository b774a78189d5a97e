-- When a last tick is enough.
use Rattle.std.specs.Prelude.{ℕ, ◌≤◌, ◌≡◌, false, List}
use Rattle.model.specs.Curve.{Curve}
use Rattle.units.specs.declared.Rack.{Rack}
use Rattle.units.specs.Rack.{overruns_on}

-- where no tick up to the last overruns, none does
abbrev pub Enough : Rack → List Curve → ℕ → Type 0
Enough rack cs last = ((y : ℕ) → y ≤ last → overruns_on rack cs y ≡ false) → (x : ℕ) → overruns_on rack cs x ≡ false
