-- A rough look at the tasks: it counts no less than their demand, every number on its way fits its word, and a jump down from it
-- clears what it passes.
use Prim.Native.Nat.{ℕ, zero, suc, ◌+◌, ◌-◌, ◌*◌, ◌/◌, ◌%◌, ◌≤◌, ◌<◌}
use mathlib.Core.Path.{◌≡◌, refl, sym, ◌∙◌}
use mathlib.Core.Bool.{true}
use mathlib.Core.List.{List}
use mathlib.Core.Logic.{inl, inr}
use native.Mathlib.Nat.{le_trans, lt_of_le_of_lt, mul-add, mul-le-mul, mul-le-mul_left, mul-le-mul_right, div-le_self, lt-mul-div-succ}
use native.Mathlib.Numerals.{add-one}
use native.Mathlib.Omega.{arith}
use lib.Dec.{ltb, lit<}
use lib.ListN.{length, get_or, take}
use Rattle.std.proofs.Math.Seq.{take-length}
use borrow.Author.Tests.{leb-true, ltb-true, ltb-false, lt-ltb, le-ltb}
use Rattle.model.specs.Limits.{most_tasks, most_processors, largest_part, most_tick, largest_volume}
use Rattle.model.specs.Range.{sum, only}
use Rattle.model.specs.Curve.{Curve, fits, demand, total, bound}
use Rattle.model.specs.Lawful.{Lawful}
use Rattle.model.proofs.Ranges.{decided, only_true, only_le, sum_le, sum_ext}
use Rattle.model.proofs.Lists.{Each}
use Rattle.model.proofs.Easing.{remains_most}
use Rattle.model.proofs.Demand.{demand_is, total_rises}
use Rattle.model.proofs.Verdicts.{within_test}
use Rattle.model.proofs.Speeds.{speed_kept}
use Rattle.model.proofs.Bounds.{largest_demand, word, bound_within}
use Rattle.units.specs.declared.Speed.{Speed}
use Rattle.units.specs.declared.Rack.{Rack}
use Rattle.units.specs.Rack.{SpeedInRange, RackInRange, total_at, bound_of}
use Rattle.curve.specs.declared.chart.Figures.{Figures}
use Rattle.curve.specs.Charts.{no_curve}
use Rattle.curve.specs.Figured.{outline, Tells, InRange, AllInRange, AllFill}
use Rattle.curve.proofs.Telling.{bare, outline_bare, bare_at, fill_limited}
use Rattle.demand.specs.Rows.{Timely}
use Rattle.demand.proofs.TableDemand.{parts}
use Rattle.demand.proofs.Totals.{total_more}
use Rattle.bound.proofs.LastTick.{each_lawful, lawful_at, timely_fill}
use Rattle.rough.specs.Rough.{most_of, Clears}

-- One task

-- the figures of a task at a speed: the period in ticks, its work, and how late a broken one may still be idle
pub record Paced (speed : Speed) (c : Curve) (turn work start : ℕ) : Type 0 where
  pub period : turn ≡ speed.p * c.period
  pub volume : work ≡ speed.q * c.volume
  pub latest : start ≡ speed.p * c.deadline - speed.q * c.length

module _ {speed : Speed} {c : Curve} (x : ℕ) {turn work start : ℕ} (is : Paced speed c turn work start) where
  -- up to its latest start, the broken period counts for nothing
  pub most_early : x % turn ≤ start → work * (x / turn) ≡ most_of speed c x
  unfolding most_of
  most_early early =
      rw (is.period, is.volume, le-ltb (speed.p * c.deadline - speed.q * c.length) (x % (speed.p * c.period)) (rw (is.period, is.latest) at early))
      (omega arith)

  -- past it, in full
  pub most_late_lem : start < x % turn → work * (x / turn) + work ≡ most_of speed c x
  unfolding most_of
  most_late_lem late =
      rw (is.period, is.volume, lt-ltb (speed.p * c.deadline - speed.q * c.length) (x % (speed.p * c.period)) (rw (is.period, is.latest) at late))

module _ (speed : Speed) {c : Curve} (is : InRange c) (range : SpeedInRange speed) where
  -- whole periods and a broken one that counts in full
  full_within : {work x : ℕ} (turn : ℕ) → work ≡ speed.q * c.volume → x ≤ most_tick → work * (x / turn) + work ≤ largest_demand
  full_within {work} {x} turn volume tick =
      let light : work ≤ largest_part * largest_volume = rw volume (mul-le-mul (parts speed range).1 is.volume) in
      let ticks : x / turn + 1 ≤ most_tick + 1 = omega (arith, div-le_self x turn) in
      omega (arith, mul-le-mul light ticks, mul-add work (x / turn) 1)

  -- room for them
  pub full_room : {work x : ℕ} (turn : ℕ) → work ≡ speed.q * c.volume → x ≤ most_tick → work * (x / turn) + work < word
  full_room turn volume tick = lt_of_le_of_lt (full_within turn volume tick) (lit< tt)

  most_within : (x : ℕ) → x ≤ most_tick → most_of speed c x ≤ largest_demand
  unfolding most_of
  most_within x tick =
      let turn = speed.p * c.period in
      let work = speed.q * c.volume in
      omega (arith, full_within turn refl tick, only_le (ltb (speed.p * c.deadline - speed.q * c.length) (x % turn)) work)

-- the broken period asks for nothing up to its latest start, and for its volume at most
demand_most :
    (p q : ℕ) {c : Curve} → Lawful c → fits p q c ≡ true → (x : ℕ)
    → demand p q c x
    ≤ q * c.volume * (x / (p * c.period)) + only (ltb (p * c.deadline - q * c.length) (x % (p * c.period))) (q * c.volume)
demand_most p q {c} law fit x =
    let broken = x % (p * c.period) in
    let start = p * c.deadline - q * c.length in
    let left = p * c.deadline - broken in
    rw (demand_is p q law x)
    (elim (decided (ltb start broken)) [
      | inl late ↦ omega (arith, remains_most q law left, only_true (ltb start broken) (q * c.volume) late)
      | inr early ↦
          let idle = ltb-false start broken early in
          let long = leb-true (q * c.length) (p * c.deadline) fit in
          omega (arith, law.over q left (omega arith))
    ])

-- All tasks

module _ (cs : List Curve) (speed : Speed) (x : ℕ) where
  -- the sum over the first n
  abbrev pub mosts : ℕ → ℕ
  mosts n = sum n (λ i. most_of speed (get_or cs i no_curve) x)

  -- room for it, and for the side of the test for an overrun that has it
  module _ (n : ℕ) (below : n ≤ length cs) (few : length cs ≤ most_tasks) (each : AllInRange cs) (range : SpeedInRange speed) (tick : x ≤ most_tick) where
    mosts_within : mosts n ≤ most_tasks * largest_demand
    mosts_within =
        le_trans (sum_le n largest_demand _ (λ i l. most_within speed (each i (omega arith)) range x tick))
        (mul-le-mul_right {m = n} {n = most_tasks} largest_demand (omega arith))

    pub mosts_room : {w : ℕ} → w ≡ mosts n → w < word
    mosts_room is = rw is (lt_of_le_of_lt mosts_within (lit< tt))

    pub jump_room : (m : ℕ) {w b : ℕ} → m ≤ most_processors → w ≡ mosts n → b ≡ bound m speed.p speed.q → speed.p * w + b < word
    jump_room m {w} {b} low is bounded =
        let high : speed.p * w ≤ largest_part * (most_tasks * largest_demand) = rw is (mul-le-mul (parts speed range).0 mosts_within) in
        let wide : b ≤ most_processors * largest_part = rw bounded (bound_within m speed.p speed.q low (parts speed range).1) in
        omega arith

  -- it is no less than their demand
  total_most : (n : ℕ) → n ≤ length cs → Each Lawful cs → Timely cs speed → total_at speed (take n cs) x ≤ mosts n
  unfolding most_of
  total_most zero below laws timely = omega arith
  total_most (suc n) below laws timely =
      let low : n < length cs = omega arith in
      let rest = total_most n (omega arith) laws timely in
      let here = demand_most speed.p speed.q (lawful_at cs laws n low) (timely n low) x in
      rw (← rw add-one at (total_more cs n speed x low refl refl)) (omega arith)

-- What the figures tell: what a task asks for at most is made of them alone

most_bare : (speed : Speed) (c : Curve) (x : ℕ) → most_of speed (bare c) x ≡ most_of speed c x
unfolding most_of
most_bare speed c x = refl

pub most_told : (speed : Speed) {f : Figures} {c : Curve} (x : ℕ) → Tells f c → most_of speed (outline f) x ≡ most_of speed c x
most_told speed {c = c} x tells = rw (outline_bare tells) (most_bare speed c x)

mosts_fill : {cs told : List Curve} → AllFill cs told → (speed : Speed) (x : ℕ) → mosts told speed x (length told) ≡ mosts cs speed x (length cs)
mosts_fill {cs} {told} all speed x =
    rw (← all.even)
    (sum_ext (length cs) _ _
    (λ i low. sym (rw (← bare_at all i low) at (most_bare speed (get_or told i no_curve) x)) ∙ most_bare speed (get_or cs i no_curve) x))

-- A jump

-- What rises and is at most `most` at the top clears each tick up to the top at which the bound has room for `most`.
pub low_clears :
    (p b : ℕ) (w : ℕ → ℕ) → ((x y : ℕ) → x ≤ y → w x ≤ w y) → {low top most : ℕ} → 0 < b → w top ≤ most
    → low ≡ (p * most + b - 1) / b → (y : ℕ) → low ≤ y → y ≤ top → p * w y ≤ b * y
low_clears p b w rises {low} {top} {most} some below is y above under =
    let asked : p * w y ≤ p * most = mul-le-mul_left p (le_trans (rises y top under) below) in
    let next : p * most + b - 1 < b * (low + 1) = rw is (lt-mul-div-succ (p * most + b - 1) some) in
    omega (arith, mul-add b low 1, mul-le-mul_left b above)

-- from a tick on, to the lower one that the rough look just before it tells
pub jumps :
    (rack : Rack) {cs told : List Curve} {left end low b w : ℕ} → AllFill cs told → Timely told rack.speed → RackInRange rack
    → b ≡ bound_of rack → 0 < b → w ≡ mosts told rack.speed (left - 1) (length told) → low ≡ (rack.speed.p * w + b - 1) / b
    → low < left → Clears rack cs left end → Clears rack cs low end
jumps rack {cs} {told} {left} {end} {low} {b} {w} all timely range bounded some is lowest lower clear =
    let p = rack.speed.p in
    let q = rack.speed.q in
    let laws = each_lawful cs (fill_limited all) in
    let most = total_most cs rack.speed (left - 1) (length cs) (omega arith) laws (timely_fill all rack.speed timely) in
    let below : total p q cs (left - 1) ≤ w = rw (is, mosts_fill all rack.speed (left - 1)) (rw (take-length cs) at most) in
    let rises : ((x y : ℕ) → x ≤ y → total p q cs x ≤ total p q cs y) =
    λ x y l. total_rises p q cs (speed_kept p q range.speed).0 laws l in
    record {
      within = omega (arith, clear.within);
      fine = λ y above short.
          elim (decided (ltb y left)) [
            | inl l ↦
                let before = ltb-true y left l in
                within_test rack.m p q cs y (rw (← bounded) (low_clears p b (total p q cs) rises some below lowest y above (omega arith)))
            | inr g ↦ clear.fine y (ltb-false y left g) short
          ];
    }
