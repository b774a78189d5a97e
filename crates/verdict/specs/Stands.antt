-- When a judgement of tasks is right, and what it asks.
use Rattle.std.specs.Prelude.{ℕ, ◌≤◌, ◌<◌, ◌≡◌, List, length, get_or}
use Rattle.model.specs.Limits.{most_cycle}
use Rattle.model.specs.Curve.{Curve, Outcome, accepted, dense, overrun, common_cycle}
use Rattle.model.specs.Entries.{Finds, curves_at}
use Rattle.units.specs.declared.Speed.{Speed}
use Rattle.units.specs.declared.Rack.{Rack}
use Rattle.speeds.specs.Calls.{Called}
use Rattle.records.specs.Rows.{ReadableAt}
use Rattle.verdict.specs.declared.Judgement.{Judgement}
use Rattle.verdict.specs.declared.Judgement.TheVariants.{LongCycle, Accepted, Dense, Overrun}

-- what a call finds of tasks, and the speed that it uses
abbrev pub FindsOn : Rack → List Curve → Outcome → Speed → Type 0
FindsOn call cs o speed = Finds call.m call.speed.p call.speed.q cs o speed.p speed.q

-- "Then 6, 7, 8, 9": a cycle over the limit, else what the call finds; a dense task is named without a speed
abbrev pub Stands : Rack → List Curve → Judgement → Type 0
Stands call cs LongCycle = most_cycle < common_cycle cs
Stands call cs (Accepted speed) = (common_cycle cs ≤ most_cycle) × FindsOn call cs accepted speed
Stands call cs (Dense i) = (common_cycle cs ≤ most_cycle) × ((speed : Speed) × FindsOn call cs (dense i) speed)
Stands call cs (Overrun x w speed) = (common_cycle cs ≤ most_cycle) × FindsOn call cs (overrun x.0 w.0) speed

-- tasks that can be read, a call, and the common cycle, within the limit
abbrev pub Judgeable : List ℕ → List ℕ → Rack → ℕ → Type 0
Judgeable set places call h =
    ((i : ℕ) → i < length places → ReadableAt set (get_or places i 0)) × Called call
    × ((h ≡ common_cycle (curves_at set places)) × (h ≤ most_cycle))
