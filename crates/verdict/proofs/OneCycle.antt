-- From a search for dense tasks and for overruns, up to a tick that is enough, to what a call finds of tasks, and at which speed.
use Prim.Native.Nat.{ℕ, zero, suc, ◌+◌, ◌*◌, ◌≤◌, ◌<◌}
use mathlib.Core.Path.{◌≡◌, refl, subst}
use mathlib.Core.Bool.{Bool, true, false, cond, not}
use mathlib.Core.List.{List, [], ◌∷◌}
use mathlib.Core.Logic.{◌↔◌}
use Rattle.std.specs.Prelude.{Option, Some, None}
use native.Mathlib.Nat.{not-suc-le-zero}
use native.Mathlib.Omega.{arith}
use lib.ListN.{length, get_or}
use borrow.Author.Tests.{not-true, not-false}
use Rattle.model.specs.Limits.{most_cycle, most_tick}
use Rattle.model.specs.Range.{least}
use Rattle.model.specs.Curve.{Curve, fits, AllFit, FirstDense, accepted, dense, overrun, accepts, refuses, names, common_cycle}
use Rattle.model.specs.Speeds.{unnamed, SpeedUsed, named, default}
use Rattle.model.specs.Entries.{at_speed, exceeds}
use Rattle.model.proofs.Ranges.{least_before, least_has}
use Rattle.model.proofs.Speeds.{speed_kept, smallest_same}
use Rattle.model.proofs.Finding.{call_sized, call_named, used_fits}
use Rattle.model.proofs.Judge.{lawful_cycle}
use Rattle.model.proofs.Bounds.{tick_within}
use Rattle.units.specs.declared.Speed.{Speed}
use Rattle.units.specs.declared.Rack.{Rack}
use Rattle.units.specs.Rack.{SpeedInRange, RackInRange, fits_at}
use Rattle.curve.specs.declared.chart.Chart.{Chart}
use Rattle.curve.specs.Charts.{curves, no_curve}
use Rattle.curve.proofs.Charts.{each_limited}
use Rattle.demand.specs.Rows.{Timely}
use Rattle.speeds.specs.Calls.{Called, dense_speed, UsedOn, named as on_named, default as on_default}
use Rattle.bound.specs.Moves.{Enough}
use Rattle.bound.proofs.LastTick.{all_fit, each_lawful}
use Rattle.search.specs.declared.Overrun.{Overrun}
use Rattle.search.specs.Searched.{SearchedBelow}
use Rattle.verdict.specs.Stands.{FindsOn}

-- The first task that does not fit, by its index

first_at :
    (p q : ℕ) (cs : List Curve) (i : ℕ) → i < length cs → ((j : ℕ) → j < i → fits p q (get_or cs j no_curve) ≡ true)
    → fits p q (get_or cs i no_curve) ≡ false → FirstDense p q cs i
first_at p q [] i low before here = absurd (not-suc-le-zero low)
first_at p q (c ∷ cs) zero low before here = here
first_at p q (c ∷ cs) (suc i) low before here =
    (before 0 (omega arith), first_at p q cs i (omega arith) (λ j l. before (suc j) (omega arith)) here)

-- task i does not fit its deadline
abbrev pub late : List Curve → Speed → ℕ → Bool
late cs speed i = not (fits_at speed (get_or cs i no_curve))

module _ (speed : Speed) (cs : List Curve) {i : ℕ} (first : i ≡ least (length cs) (late cs speed)) where
  passed : (j : ℕ) → j < i → fits_at speed (get_or cs j no_curve) ≡ true
  passed j l = not-false (fits_at speed (get_or cs j no_curve)) (least_before (length cs) (late cs speed) j (rw first at l))

  first_late : i < length cs → FirstDense speed.p speed.q cs i
  first_late low =
      let here : late cs speed i ≡ true = rw first (least_has (length cs) (late cs speed) (rw first at low)) in
      first_at speed.p speed.q cs i low passed (not-true (fits_at speed (get_or cs i no_curve)) here)

  -- where there is none, every task fits
  pub timely : length cs ≤ i → Timely cs speed
  timely none j l = passed j (omega arith)

-- Tasks that fit, by their index

fit_at : (p q : ℕ) (cs : List Curve) → AllFit p q cs → Timely cs (record { p = p; q = q })
fit_at p q [] fit i low = absurd (not-suc-le-zero low)
fit_at p q (c ∷ cs) fit zero low = fit.0
fit_at p q (c ∷ cs) fit (suc i) low = fit_at p q cs fit.1 i (omega arith)

timely_fit : (p q : ℕ) (cs : List Curve) → Timely cs (record { p = p; q = q }) ↔ AllFit p q cs
timely_fit p q cs = (all_fit (record { p = p; q = q }) cs, fit_at p q cs)

-- What a call finds

-- the rack of a call, at the speed used
abbrev pub rack_at : Rack → Speed → Rack
rack_at call speed = record { m = call.m; speed = speed }

module _ (call : Rack) (cs : List Curve) (takes : Called call) where
  -- the first that does not fit, at the speed named or at 1/1
  pub right_dense :
      {i : ℕ} → i ≡ least (length cs) (late cs (dense_speed call.speed)) → i < length cs → (speed : Speed) × FindsOn call cs (dense i) speed
  right_dense {i} first low = go (unnamed call.speed.p call.speed.q) refl first
    where
      go :
          (z : Bool) → unnamed call.speed.p call.speed.q ≡ z
          → i ≡ least (length cs) (late cs (cond z (record { p = 1; q = 1 }) call.speed))
          → (speed : Speed) × FindsOn call cs (dense i) speed
      go true none is = (record { p = 0; q = 0 }, exceeds i none (first_late (record { p = 1; q = 1 }) cs is low))
      go false said is =
          let speed = call.speed in
          let fits = call_named call.m speed.p speed.q takes said in
          (speed, at_speed (dense i) _ _ (named fits) (refuses i (first_late speed cs is low)))

  -- the speed that the call uses, where all fit
  module _ {speed : Speed} (on : UsedOn call cs speed) where
    pub used : SpeedUsed call.m call.speed.p call.speed.q cs speed.p speed.q
    used = go on
      where
        go : {s : Speed} → UsedOn call cs s → SpeedUsed call.m call.speed.p call.speed.q cs s.p s.q
        go (on_named said) = named (call_named call.m call.speed.p call.speed.q takes said)
        go (on_default s none smallest) =
            default s.p s.q none
            (smallest_same (λ p q. (λ c. (c.0, (timely_fit p q cs).0 c.1), λ c. (c.0, (timely_fit p q cs).1 c.1))) smallest)

    pub used_timely : Timely cs (dense_speed call.speed) → Timely cs speed
    used_timely fit = go on
      where
        go : {s : Speed} → UsedOn call cs s → Timely cs s
        go (on_named said) = rw said at fit
        go (on_default s none smallest) = smallest.enough.1

    -- the rack at that speed
    pub rack_kept : RackInRange (rack_at call speed)
    rack_kept =
        let sized = call_sized call.m call.speed.p call.speed.q takes in
        record { some = sized.0; few = sized.1; speed = used_fits used }

    module _ (fit : Timely cs (dense_speed call.speed)) where
      all : AllFit speed.p speed.q cs
      all = all_fit speed cs (used_timely fit)

      module _ (last : ℕ) {found : Option Overrun} (search : SearchedBelow (rack_at call speed) cs (last + 1) found) where
        pub right_overrun : {over : Overrun} → found ≡ Some over → FindsOn call cs (overrun over.x.0 over.w.0) speed
        right_overrun told =
            let at = subst (SearchedBelow (rack_at call speed) cs (last + 1)) told search in
            at_speed _ _ _ used (names _ _ all at.1 at.2 at.3)

        pub right_accepted : Enough (rack_at call speed) cs last → found ≡ None → FindsOn call cs accepted speed
        right_accepted enough told =
            let fine = subst (SearchedBelow (rack_at call speed) cs (last + 1)) told search in
            at_speed _ _ _ used (accepts all (enough (λ y l. fine y (omega arith))))

-- a common cycle has a tick
pub cycle_some : (charts : List Chart) {h : ℕ} → h ≡ common_cycle (curves charts) → 0 < h
cycle_some charts is = rw is (lawful_cycle (curves charts) (each_lawful (curves charts) (each_limited charts))).some

-- a speed's ticks in the cycle are few enough to be asked for
pub cycle_ticks : (speed : Speed) (h : ℕ) → SpeedInRange speed → h ≤ most_cycle → speed.p * h ≤ most_tick
cycle_ticks speed h range low = let kept = speed_kept speed.p speed.q range in tick_within (omega arith) low
