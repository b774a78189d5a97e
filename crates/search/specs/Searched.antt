-- What a search for an overrun finds.
use Rattle.std.specs.Prelude.{ℕ, ◌<◌, ◌≡◌, true, false, List, Option, Some, None}
use Rattle.model.specs.Curve.{Curve}
use Rattle.units.specs.declared.Rack.{Rack}
use Rattle.units.specs.Rack.{total_at, overruns_on}
use Rattle.search.specs.declared.Overrun.{Overrun}

-- nothing below the end, or the smallest tick that overruns, which is below it, and its W
abbrev pub SearchedBelow : Rack → List Curve → ℕ → Option Overrun → Type 0
SearchedBelow rack cs end None = (y : ℕ) → y < end → overruns_on rack cs y ≡ false
SearchedBelow rack cs end (Some over) =
    (over.x.0 < end) × (overruns_on rack cs over.x.0 ≡ true) × ((y : ℕ) → y < over.x.0 → overruns_on rack cs y ≡ false)
    × (over.w.0 ≡ total_at rack.speed cs over.x.0)
