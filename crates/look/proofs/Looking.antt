-- A close look from a tick down: room for what a turn asks, and what the line that it follows tells of the ticks passed.
use Prim.Native.Nat.{ℕ, ◌+◌, ◌*◌, ◌≤◌, ◌<◌}
use mathlib.Core.Path.{◌≡◌}
use mathlib.Core.Bool.{true, false}
use mathlib.Core.List.{List}
use mathlib.Core.Logic.{inl, inr}
use native.Mathlib.Omega.{arith}
use Rattle.std.specs.Prelude.{Result, Ok, Err}
use lib.ListN.{length, take}
use Rattle.std.proofs.lemmas.List.{take_all}
use lib.Dec.{ltb}
use borrow.Author.Tests.{lt-ltb, ltb-true, ltb-false}
use Rattle.model.specs.Limits.{most_tasks, most_processors, largest_part, most_tick}
use Rattle.model.specs.Curve.{Curve, total, overruns}
use Rattle.model.proofs.Ranges.{decided}
use Rattle.model.proofs.Demand.{total_rises}
use Rattle.model.proofs.Verdicts.{within_test}
use Rattle.model.proofs.Speeds.{speed_kept}
use Rattle.model.proofs.Bounds.{word, bound_within, bound_fits}
use Rattle.units.specs.declared.Rack.{Rack}
use Rattle.units.specs.Rack.{RackInRange, total_at, bound_of, overruns_on}
use Rattle.curve.specs.declared.chart.Chart.{Chart}
use Rattle.curve.specs.Charts.{curves}
use Rattle.curve.proofs.Charts.{curves_count, each_limited}
use Rattle.demand.proofs.TableDemand.{parts}
use Rattle.demand.proofs.Totals.{scaled_most, most_work}
use Rattle.slopes.specs.declared.lines.Line.{Line}
use Rattle.slopes.specs.Lines.{Falls}
use Rattle.slopes.proofs.Lining.{at_end}
use Rattle.bound.proofs.LastTick.{each_lawful}
use Rattle.rough.specs.Rough.{Clears}
use Rattle.look.specs.Clearing.{Followed}
use Rattle.look.specs.declared.Over.{Over}

-- a tick whose demand is above the bound overruns
over_test :
    (rack : Rack) (cs : List Curve) (x : ℕ) → bound_of rack * x < rack.speed.p * total_at rack.speed cs x → overruns_on rack cs x ≡ true
unfolding overruns
over_test rack cs x high = lt-ltb (bound_of rack * x) (rack.speed.p * total_at rack.speed cs x) high

module _
    (charts : List Chart) (rack : Rack) (range : RackInRange rack) {b : ℕ} (is : b ≡ bound_of rack) {top : ℕ} {line : Line}
    (falls : Falls (total_at rack.speed (curves charts)) top line) where
  abbrev cs : List Curve
  cs = curves charts

  abbrev p : ℕ
  p = rack.speed.p

  abbrev q : ℕ
  q = rack.speed.q

  -- room for both sides of the test at the top of the line
  pub top_room : length charts ≤ most_tasks → top ≤ most_tick → (p * line.value.0 + b < word) × (b * top < word)
  top_room few tick =
      let low = (parts rack.speed range.speed).1 in
      let wide : b ≤ most_processors * largest_part = rw is (bound_within rack.m p q range.few low) in
      let all : take (length charts) cs ≡ cs = take_all (length charts) cs (omega (arith, curves_count charts)) in
      let high : p * line.value.0 ≤ largest_part * most_work =
      scaled_most charts (length charts) rack.speed top (rw all (at_end falls)) few range.speed (omega arith) in
      (omega arith, rw is (bound_fits rack.m p q top range.few low tick))

  -- what following the line tells, whatever demand rises and falls so
  abbrev Told : ℕ → Result ℕ Over → Type 0
  Told fine r = (w : ℕ → ℕ) → ((x y : ℕ) → x ≤ y → w x ≤ w y) → Falls w top line → Followed (λ x. p * w x) b top fine r

  followed : (fine : ℕ) (r : Result ℕ Over) → Told fine r → Followed (λ x. p * total p q cs x) b top fine r
  followed fine r told =
      told (total p q cs) (λ x y l. total_rises p q cs (speed_kept p q range.speed).0 (each_lawful cs (each_limited charts)) l) falls

  -- the tick that it names overruns
  pub over_found :
      (fine : ℕ) (over : Over) → Told fine (Err over) → (fine ≤ over.0.0) × (over.0.0 ≤ top) × (overruns_on rack cs over.0.0 ≡ true)
  over_found fine over told =
      let found = followed fine (Err over) told in
      (found.0, found.1, over_test rack cs over.0.0 (rw is at found.2))

  -- nothing overruns from the tick that it leaves on
  pub left_clear :
      (fine x end : ℕ) → Told fine (Ok x) → ((y : ℕ) → top < y → y < end → overruns_on rack cs y ≡ false)
      → (x ≤ top) × ((y : ℕ) → x ≤ y → y < end → overruns_on rack cs y ≡ false)
  left_clear fine x end told clear =
      let found = followed fine (Ok x) told in (
        found.0,
        λ y above short.
            elim (decided (ltb top y)) [
              | inl l ↦ clear y (ltb-true top y l) short
              | inr g ↦ within_test rack.m p q cs y (rw is at (found.1 y above (ltb-false top y g)))
            ],
      )

-- what is clear up to a tick is so up to the end, where all from that tick on is
pub clear_on :
    (rack : Rack) (tasks : List Curve) {fine left end : ℕ} → Clears rack tasks left end
    → ((y : ℕ) → fine ≤ y → y < left → overruns_on rack tasks y ≡ false) → (y : ℕ) → fine ≤ y → y < end → overruns_on rack tasks y ≡ false
clear_on rack tasks {left = left} clears below y above short =
    elim (decided (ltb y left)) [
      | inl l ↦ below y above (ltb-true y left l)
      | inr g ↦ clears.fine y (ltb-false y left g) short
    ]
