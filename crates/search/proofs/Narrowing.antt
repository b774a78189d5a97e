-- What is clear is put together: below a tick by the move before, from it on by a look. Nothing overruns at tick 0; and what a search below
-- an end finds holds below a further one, where nothing overruns from there on.
use Prim.Native.Nat.{ℕ, ◌≤◌, ◌<◌}
use mathlib.Core.Path.{◌≡◌}
use mathlib.Core.Bool.{Bool, false}
use mathlib.Core.List.{List, [], ◌∷◌}
use mathlib.Core.Logic.{inl, inr}
use native.Mathlib.Omega.{arith}
use lib.Dec.{ltb}
use Rattle.std.specs.Prelude.{Option, Some, None}
use borrow.Author.Tests.{ltb-true, ltb-false}
use Rattle.model.specs.Curve.{Curve, total, AllFit}
use Rattle.model.specs.Lawful.{Lawful, Limited}
use Rattle.model.proofs.Ranges.{decided}
use Rattle.model.proofs.Lists.{Each, each_weaken}
use Rattle.model.proofs.Demand.{demand_zero}
use Rattle.model.proofs.Verdicts.{within_test}
use Rattle.units.specs.declared.Rack.{Rack}
use Rattle.units.specs.Rack.{overruns_on}
use Rattle.curve.specs.declared.chart.Chart.{Chart}
use Rattle.curve.specs.Charts.{curves}
use Rattle.curve.proofs.Charts.{each_limited}
use Rattle.demand.specs.Rows.{Timely}
use Rattle.bound.proofs.LastTick.{all_fit}
use Rattle.search.specs.Searched.{SearchedBelow}
use Rattle.search.specs.declared.Overrun.{Overrun}

-- a test that fails below a tick and from it on up to the end
pub both_clear :
    (f : ℕ → Bool) {from end : ℕ} → ((y : ℕ) → y < from → f y ≡ false) → ((y : ℕ) → from ≤ y → y < end → f y ≡ false)
    → (y : ℕ) → y < end → f y ≡ false
both_clear f {from} below above y low =
    elim (decided (ltb y from)) [
      | inl l ↦ below y (ltb-true y from l)
      | inr g ↦ above y (ltb-false y from g) low
    ]

-- tasks that fit ask for nothing at once
total_zero : (p q : ℕ) (cs : List Curve) → Each Lawful cs → AllFit p q cs → total p q cs 0 ≡ 0
total_zero p q [] laws fit = omega arith
total_zero p q (c ∷ cs) laws fit =
    omega (arith, demand_zero p q laws.0 fit.0, total_zero p q cs laws.1 fit.1)

pub clear_at_once :
    (charts : List Chart) (rack : Rack) → Timely (curves charts) rack.speed → (y : ℕ) → y < 1
    → overruns_on rack (curves charts) y ≡ false
clear_at_once charts rack timely y low =
    let none : y ≡ 0 = omega arith in
    let cs = curves charts in
    let laws = each_weaken Limited Lawful cs (λ c limited. limited.lawful) (each_limited charts) in
    let fit = all_fit rack.speed cs timely in
    within_test rack.m rack.speed.p rack.speed.q cs y (rw (none, total_zero rack.speed.p rack.speed.q cs laws fit) (omega arith))

module _ (rack : Rack) (cs : List Curve) {end last : ℕ} where
  -- below a further end, where nothing from there on overruns
  pub clear_further :
      (r : Option Overrun) → end ≤ last → ((y : ℕ) → end ≤ y → y < last → overruns_on rack cs y ≡ false) → SearchedBelow rack cs end r
      → SearchedBelow rack cs last r
  clear_further None further clear none = both_clear (overruns_on rack cs) none clear
  clear_further (Some first) further clear found = (omega (arith, found.0), found.1, found.2, found.3)
