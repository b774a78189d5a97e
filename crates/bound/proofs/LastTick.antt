-- The last tick that a search has to look at: the bound, a line above each task's demand, and why nothing overruns from where the
-- sum of the lines meets the bound.
use Prim.Native.Nat.{ℕ, zero, suc, ◌+◌, ◌-◌, ◌*◌, ◌/◌, ◌%◌, ◌≤◌, ◌<◌, ◌∣◌}
use mathlib.Core.Path.{◌≡◌, refl, sym, ◌∙◌, ap}
use mathlib.Core.Bool.{true}
use mathlib.Core.List.{List, [], ◌∷◌}
use mathlib.Core.Logic.{inl, inr}
use native.Mathlib.Nat.{le_trans, lt_of_le_of_lt, mul_assoc, mul_right_comm, mul_comm, mul-add, add-mul, mul-le-mul, mul-le-mul_left, mul-le-mul_right, le_of_mul-le-mul_right, mul-div_cancel', mod-add-div', div-le_self, div-lt_iff_lt-mul}
use native.Mathlib.Numerals.{add-one}
use native.Mathlib.Omega.{arith}
use lib.Dec.{leb, ltb, lit<}
use lib.ListN.{length, get_or, take}
use Rattle.std.proofs.Math.Seq.{take-length}
use borrow.Author.Tests.{leb-true, leb-false, ltb-true, ltb-false}
use Rattle.model.specs.Limits.{most_tasks, longest_period, largest_part, most_cycle, largest_volume}
use Rattle.model.specs.Range.{sum}
use Rattle.model.specs.Curve.{Curve, demand, AllFit, common_cycle}
use Rattle.model.specs.Lawful.{Lawful, Limited}
use Rattle.model.proofs.Ranges.{decided, sum_le, sum_ext}
use Rattle.model.proofs.Lists.{Each, each_weaken}
use Rattle.model.proofs.Easing.{remains_most}
use Rattle.model.proofs.Cycle.{Cycles}
use Rattle.model.proofs.Demand.{demand_is}
use Rattle.model.proofs.Verdicts.{within_test, cycle_enough}
use Rattle.model.proofs.Judge.{lawful_cycle}
use Rattle.model.proofs.Speeds.{speed_kept}
use Rattle.model.proofs.Bounds.{word, product_fits, bound_within}
use Rattle.units.specs.declared.Speed.{Speed}
use Rattle.units.specs.declared.Rack.{Rack}
use Rattle.units.specs.Rack.{SpeedInRange, RackInRange, fits_at, demand_at, total_at, bound_of}
use Rattle.curve.specs.declared.chart.Figures.{Figures}
use Rattle.curve.specs.Charts.{no_curve}
use Rattle.curve.specs.Figured.{outline, Tells, InRange, AllInRange, AllFill}
use Rattle.curve.proofs.Telling.{bare, outline_bare, bare_at}
use Rattle.demand.proofs.TableDemand.{parts}
use Rattle.demand.proofs.Totals.{total_more}
use Rattle.bound.specs.Moves.{Enough}
use Rattle.demand.specs.Rows.{Timely}
use Rattle.bound.specs.LineAbove.{work_of, late_of}

-- The bound

-- room for its two parts, of which the second is smaller
pub bound_parts :
    (rack : Rack) → RackInRange rack
    → (rack.m * rack.speed.q < word) × ((rack.m - 1) * rack.speed.p < word)
    × ((rack.m - 1) * rack.speed.p < rack.m * rack.speed.q)
bound_parts rack range =
    let m = rack.m in
    let q = rack.speed.q in
    let kept = speed_kept rack.speed.p q range.speed in
    let low : m - 1 + 1 ≡ m = omega (arith, range.some) in
    let less : (m - 1) * rack.speed.p < m * q =
    omega (arith, range.some, mul-le-mul_left (m - 1) kept.1, add-mul (m - 1) 1 q, ap (λ k. k * q) low) in
    let room : m * q < word = product_fits range.few kept.2 (lit< tt) in
    (room, omega arith, less)

-- room for what it allows over a cycle
pub bound_room : (rack : Rack) (h : ℕ) {b : ℕ} → RackInRange rack → h ≤ most_cycle → b ≡ bound_of rack → b * h < word
bound_room rack h range low is =
    let speed = rack.speed in
    rw is
    (product_fits (bound_within rack.m speed.p speed.q range.few (parts speed range.speed).1) low (lit< tt))

-- One curve

-- whole periods, and a rest that is at most e further ones
under : (v k e P : ℕ) {rest y : ℕ} → rest ≤ v * e → (k + e) * P ≤ y → (v * k + rest) * P ≤ v * y
under v k e P {rest} few low =
    le_trans (mul-le-mul_right {m = v * k + rest} {n = v * (k + e)} P (omega (arith, mul-add v k e)))
    (rw (mul_assoc v (k + e) P) (mul-le-mul_left v low))

module _ (p q : ℕ) {c : Curve} (law : Lawful c) where
  -- the line is ahead by what a period has beyond the deadline, and by the length
  abbrev ahead : ℕ
  ahead = p * c.period - p * c.deadline + q * c.length

  -- the broken period counts only from its length before the deadline on, and then as a whole one at most
  demand_below : (x : ℕ) → demand p q c x * (p * c.period) ≤ q * c.volume * (x + ahead)
  demand_below x =
      let turn = p * c.period in
      let left = p * c.deadline - x % turn in
      let ticks = mod-add-div' x turn in
      rw (demand_is p q law x)
      (elim (decided (leb (q * c.length) left)) [
        | inl far ↦
            under (q * c.volume) (x / turn) 0 turn (omega (arith, law.over q left (leb-true (q * c.length) left far)))
            (omega (arith, ticks, add-mul (x / turn) 0 turn))
        | inr near ↦
            under (q * c.volume) (x / turn) 1 turn (omega (arith, remains_most q law left))
            (omega (
              arith,
              ticks,
              add-mul (x / turn) 1 turn,
              leb-false (q * c.length) left near,
              mul-le-mul_left p law.constrained,
            ))
      ])

  -- over a whole number of periods
  pub demand_over :
      (h x : ℕ) → c.period ∣ h → demand p q c x * (p * h) ≤ q * c.volume * (h / c.period) * (x + ahead)
  demand_over h x divides =
      let times = h / c.period in
      let whole : p * h ≡ p * c.period * times =
      ap (λ n. p * n) (sym (mul-div_cancel' c.period divides)) ∙ sym (mul_assoc p c.period times) in
      rw (whole, ← mul_assoc (demand p q c x) (p * c.period) times, mul_right_comm (q * c.volume) times (x + ahead))
      (mul-le-mul_right times (demand_below x))

-- The sums

-- a line that is flatter than the bound stays below it from where they meet
past :
    (p h b w load late x : ℕ) → 0 < h → w * (p * h) ≤ load * x + late → load < b * h → late / (b * h - load) < x → p * w ≤ b * x
past p h b w load late x some below room beyond =
    let gap = b * h - load in
    let met : late < x * gap = (div-lt_iff_lt-mul {k = gap} (omega arith)).0 beyond in
    let apart : b * h ≡ load + gap = omega arith in
    let all : b * h * x ≡ load * x + gap * x = ap (λ k. k * x) apart ∙ add-mul load gap x in
    le_of_mul-le-mul_right {m = p * w} {n = b * x} {k = h}
    (omega (arith, mul_comm x gap, mul_right_comm b h x, mul_comm w (p * h), mul_right_comm p h w)) some

-- curves within their limits are lawful
pub each_lawful : (cs : List Curve) → Each Limited cs → Each Lawful cs
each_lawful cs = each_weaken Limited Lawful cs (λ c limited. limited.lawful)

-- where each fits, all do
pub all_fit : (speed : Speed) (cs : List Curve) → Timely cs speed → AllFit speed.p speed.q cs
all_fit speed [] timely = tt
all_fit speed (c ∷ cs) timely = (timely 0 (omega arith), all_fit speed cs (λ i l. timely (suc i) (omega arith)))

-- a curve of the list is lawful where each is
pub lawful_at : (cs : List Curve) → Each Lawful cs → (i : ℕ) → i < length cs → Lawful (get_or cs i no_curve)
lawful_at [] laws i low = absurd (omega arith)
lawful_at (c ∷ cs) laws zero low = laws.0
lawful_at (c ∷ cs) laws (suc i) low = lawful_at cs laws.1 i (omega arith)

-- a cycle is one of each task
period_at : (h : ℕ) (cs : List Curve) → Cycles h cs → (i : ℕ) → i < length cs → (get_or cs i no_curve).period ∣ h
period_at h [] cycles i low = absurd (omega arith)
period_at h (c ∷ cs) cycles zero low = cycles.0
period_at h (c ∷ cs) cycles (suc i) low = period_at h cs cycles.1 i (omega arith)

-- Room

-- the most that a task does in a cycle
abbrev most_work : ℕ
most_work = largest_part * largest_volume * most_cycle

abbrev most_late : ℕ
most_late = most_work * (largest_part * longest_period)

-- what the line above a task makes on the way fits its word
pub record AboveFits (speed : Speed) (h : ℕ) (c : Curve) : Type 0 where
  pub work : work_of speed h c < word
  pub due : speed.p * c.deadline ≤ speed.p * c.period
  pub ahead : speed.p * c.period - speed.p * c.deadline + speed.q * c.length < word
  pub late : late_of speed h c < word

module _ (speed : Speed) (h : ℕ) {c : Curve} (is : InRange c) (low : h ≤ most_cycle) (range : SpeedInRange speed) where
  work_within : work_of speed h c ≤ most_work
  unfolding work_of
  work_within = mul-le-mul (mul-le-mul (parts speed range).1 is.volume) (le_trans (div-le_self h c.period) low)

  module _ (fit : fits_at speed c ≡ true) where
    due_within : speed.p * c.deadline ≤ speed.p * c.period
    due_within = mul-le-mul_left speed.p is.constrained

    -- the line is ahead by a period at most
    ahead_within : speed.p * c.period - speed.p * c.deadline + speed.q * c.length ≤ largest_part * longest_period
    ahead_within =
        let length = leb-true (speed.q * c.length) (speed.p * c.deadline) fit in
        let long = mul-le-mul (parts speed range).0 is.period in
        omega (arith, due_within)

    late_within : late_of speed h c ≤ most_late
    unfolding late_of
    late_within = mul-le-mul work_within ahead_within

    pub above_fits : AboveFits speed h c
    above_fits = record {
      work = lt_of_le_of_lt work_within (lit< tt);
      due = due_within;
      ahead = lt_of_le_of_lt ahead_within (lit< tt);
      late = lt_of_le_of_lt late_within (lit< tt);
    }

-- a sum with one number more
pub sum_more : (i : ℕ) (f : ℕ → ℕ) {a b : ℕ} → a ≡ sum i f → b ≡ f i → a + b ≡ sum (i + 1) f
sum_more i f is here = rw (is, here, add-one)

sum_fits : (n k : ℕ) (f : ℕ → ℕ) → n ≤ most_tasks → ((i : ℕ) → i < n → f i ≤ k) → most_tasks * k < word → sum n f < word
sum_fits n k f few each room = lt_of_le_of_lt (le_trans (sum_le n k f each) (mul-le-mul_right k few)) room

-- The lines of the first tasks

module _ (cs : List Curve) (speed : Speed) (h : ℕ) where
  abbrev pub loads : ℕ → ℕ
  loads n = sum n (λ k. work_of speed h (get_or cs k no_curve))

  abbrev pub lates : ℕ → ℕ
  lates n = sum n (λ k. late_of speed h (get_or cs k no_curve))

  -- they are above the demand
  lines_above :
      (n x : ℕ) → n ≤ length cs → Each Lawful cs → Cycles h cs → total_at speed (take n cs) x * (speed.p * h) ≤ loads n * x + lates n
  unfolding work_of late_of
  lines_above zero x some laws cycles = omega arith
  lines_above (suc n) x some laws cycles =
      let c = get_or cs n no_curve in
      let low : n < length cs = omega arith in
      let rest = lines_above n x (omega arith) laws cycles in
      let here = demand_over speed.p speed.q (lawful_at cs laws n low) h x (period_at h cs cycles n low) in
      let more : total_at speed (take n cs) x + demand_at speed c x ≡ total_at speed (take (suc n) cs) x =
      rw add-one at (total_more cs n speed x low refl refl) in
      rw (← more)
      (omega (
        arith,
        add-mul (total_at speed (take n cs) x) (demand_at speed c x) (speed.p * h),
        add-mul (loads n) (work_of speed h c) x,
        mul-add (work_of speed h c) x (speed.p * c.period - speed.p * c.deadline + speed.q * c.length),
      ))

  -- room for both sums
  module _ (n : ℕ) (below : n ≤ length cs) (few : length cs ≤ most_tasks) (each : AllInRange cs) (low : h ≤ most_cycle) (range : SpeedInRange speed) where
    pub loads_room : {a : ℕ} → a ≡ loads n → a < word
    loads_room is = rw is (sum_fits n most_work _ (omega arith) (λ i l. work_within speed h (each i (omega arith)) low range) (lit< tt))

    pub lates_room : {a : ℕ} → Timely cs speed → a ≡ lates n → a < word
    lates_room timely is =
        rw is
        (sum_fits n most_late _ (omega arith)
        (λ i l. late_within speed h (each i (omega arith)) low range (timely i (omega arith))) (lit< tt))

-- What the figures tell

-- a line is made of them alone
line_bare : (speed : Speed) (h : ℕ) (c : Curve) → (work_of speed h (bare c) ≡ work_of speed h c) × (late_of speed h (bare c) ≡ late_of speed h c)
unfolding work_of late_of
line_bare speed h c = (refl, refl)

pub line_told :
    (speed : Speed) (h : ℕ) {f : Figures} {c : Curve} → Tells f c
    → (work_of speed h (outline f) ≡ work_of speed h c) × (late_of speed h (outline f) ≡ late_of speed h c)
line_told speed h {c = c} tells = rw (outline_bare tells) (line_bare speed h c)

pub fits_told : (speed : Speed) {f : Figures} {c : Curve} → Tells f c → fits_at speed c ≡ true → fits_at speed (outline f) ≡ true
fits_told speed tells fit = rw (tells.length, tells.deadline) fit

module _ {cs told : List Curve} (all : AllFill cs told) where
  lines_at :
      (speed : Speed) (h i : ℕ) → i < length cs
      → (work_of speed h (get_or told i no_curve) ≡ work_of speed h (get_or cs i no_curve))
      × (late_of speed h (get_or told i no_curve) ≡ late_of speed h (get_or cs i no_curve))
  lines_at speed h i low =
      let here = line_bare speed h (get_or cs i no_curve) in
      let there = rw (← bare_at all i low) at (line_bare speed h (get_or told i no_curve)) in
      (sym there.0 ∙ here.0, sym there.1 ∙ here.1)

  -- so are the sums
  pub loads_fill : (speed : Speed) (h : ℕ) → loads told speed h (length cs) ≡ loads cs speed h (length cs)
  loads_fill speed h = sum_ext (length cs) _ _ (λ i low. (lines_at speed h i low).0)

  pub lates_fill : (speed : Speed) (h : ℕ) → lates told speed h (length cs) ≡ lates cs speed h (length cs)
  lates_fill speed h = sum_ext (length cs) _ _ (λ i low. (lines_at speed h i low).1)

  -- and whether each fits
  pub timely_fill : (speed : Speed) → Timely told speed → Timely cs speed
  timely_fill speed timely i low =
      let fill = all.each i low in
      rw (fill.length, fill.deadline) (timely i (omega (arith, all.even)))

module _
    (cs : List Curve) (rack : Rack) (h : ℕ) (laws : Each Lawful cs) (cycle : h ≡ common_cycle cs) (some : 0 < h) where
  cycles : Cycles h cs
  cycles = rw cycle (lawful_cycle cs laws).cycles

  -- one cycle is enough
  pub cycle_looked : RackInRange rack → Timely cs rack.speed → {last : ℕ} → last ≡ rack.speed.p * h → Enough rack cs last
  cycle_looked range timely is fine =
      let speed = rack.speed in
      cycle_enough rack.m speed.p speed.q h cs (speed_kept speed.p speed.q range.speed).0 some laws cycles
      (all_fit speed cs timely) (λ x l. fine x (omega arith))

  -- and so is the way to where the lines meet the bound
  pub lines_looked :
      {load late b : ℕ} → load ≡ loads cs rack.speed h (length cs) → late ≡ lates cs rack.speed h (length cs) → b ≡ bound_of rack
      → load < b * h → Enough rack cs (late / (b * h - load))
  lines_looked {load} {late} {b} is_load is_late is_bound room fine x =
      let speed = rack.speed in
      let last = late / (b * h - load) in
      elim (decided (ltb last x)) [
        | inl beyond ↦
            let below : total_at speed cs x * (speed.p * h) ≤ load * x + late =
            rw (is_load, is_late)
            (rw (take-length cs) at (lines_above cs speed h (length cs) x (omega arith) laws cycles)) in
            within_test rack.m speed.p speed.q cs x
            (rw (← is_bound) (past speed.p h b (total_at speed cs x) load late x some below room (ltb-true last x beyond)))
        | inr within ↦ fine x (ltb-false last x within)
      ]
