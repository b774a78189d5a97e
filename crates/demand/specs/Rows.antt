-- Tasks that fit their deadlines.
use Rattle.std.specs.Prelude.{ℕ, ◌<◌, ◌≡◌, true, List, length, get_or}
use Rattle.model.specs.Curve.{Curve}
use Rattle.units.specs.declared.Speed.{Speed}
use Rattle.units.specs.Rack.{fits_at}
use Rattle.curve.specs.Charts.{no_curve}

-- each of the tasks fits its deadline
abbrev pub Timely : List Curve → Speed → Type 0
Timely cs speed = (i : ℕ) → i < length cs → fits_at speed (get_or cs i no_curve) ≡ true
