-- `stretch::kept::keep_up_to` meets its contract. The loop's invariant: each place holds a stretch, and while there are places, the last
-- used one ends where the next begins. The measure is what is left up to the tick.
use Prim.Native.Nat.{◌-◌, ◌<◌}
use mathlib.Core.Path.{◌≡◌}
use Rattle.curve.specs.Charts.{chart_curve}
use Rattle.stretch.specs.Stretches.{Kept}
use Rattle.places.specs.OneStretch.{end_of}
use Rattle.places.specs.Places.{stretch_in}
use Rattle.stretch.proofs.kept.keep_up_to.Given as goal

abbrev pub invariant-loop-from : goal.invariant-loop-from
invariant-loop-from l =
    (0 < l.kept.used → l.kept.used < 64 → l.from ≡ end_of (stretch_in l.kept (l.kept.used - 1))) × Kept l.speed (chart_curve l.chart) l.kept

abbrev pub decreases-loop-from : goal.decreases-loop-from
decreases-loop-from l =
    l.r.0 - l.from
