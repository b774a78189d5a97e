-- What a close look from a tick down finds.
use Rattle.std.specs.Prelude.{ℕ, ◌*◌, ◌≤◌, ◌<◌, ◌≡◌, true, false, List, Result, Ok, Err}
use Rattle.model.specs.Curve.{Curve}
use Rattle.units.specs.declared.Rack.{Rack}
use Rattle.units.specs.Rack.{overruns_on}
use Rattle.look.specs.declared.Over.{Over}

-- nowhere from a tick on, that is no higher, up to `top` is f above the bound; or it is so at some tick from `fine` to `top`
abbrev pub Followed : (ℕ → ℕ) → ℕ → ℕ → ℕ → Result ℕ Over → Type 0
Followed f bound top fine (Ok x) = (x ≤ top) × ((y : ℕ) → x ≤ y → y ≤ top → f y ≤ bound * y)
Followed f bound top fine (Err over) = (fine ≤ over.0.0) × (over.0.0 ≤ top) × (bound * over.0.0 < f over.0.0)

-- nothing from `fine` up to the end overruns, or the tick found does
abbrev pub Looked : Rack → List Curve → ℕ → ℕ → Result (Unit {0}) Over → Type 0
Looked rack cs fine end (Ok nothing) = (y : ℕ) → fine ≤ y → y < end → overruns_on rack cs y ≡ false
Looked rack cs fine end (Err over) = (fine ≤ over.0.0) × (over.0.0 < end) × (overruns_on rack cs over.0.0 ≡ true)
