-- The demand of all tasks, task by task, and room for it and for the side of the test for an overrun that has it.
use Prim.Native.Nat.{ℕ, ◌+◌, ◌*◌, ◌≤◌, ◌<◌}
use mathlib.Core.Path.{◌≡◌, sym}
use mathlib.Core.List.{List, [], ◌∷◌, ◌++◌}
use native.Mathlib.Nat.{le_trans, lt_of_le_of_lt, mul-le-mul, mul-le-mul_right}
use native.Mathlib.Omega.{arith}
use lib.Dec.{lit<}
use lib.ListN.{length, get_or, take}
use Rattle.std.proofs.lemmas.List.{length-take, take_more}
use Rattle.model.specs.Limits.{most_tasks, largest_part, most_tick, largest_volume}
use Rattle.model.specs.Curve.{Curve}
use Rattle.model.specs.Lawful.{Limited}
use Rattle.model.proofs.Lists.{Each}
use Rattle.model.proofs.Bounds.{word, demand_le}
use Rattle.units.specs.declared.Speed.{Speed}
use Rattle.units.specs.Rack.{SpeedInRange, demand_at, total_at}
use Rattle.curve.specs.declared.chart.Chart.{Chart}
use Rattle.curve.specs.Charts.{curves, no_curve}
use Rattle.curve.proofs.Charts.{curves_count, each_limited, each_first}
use Rattle.demand.proofs.TableDemand.{parts}

-- one more behind the others
pub total_behind : (speed : Speed) (cs : List Curve) (c : Curve) (x : ℕ) → total_at speed (cs ++ c ∷ []) x ≡ total_at speed cs x + demand_at speed c x
total_behind speed [] c x = omega arith
total_behind speed (d ∷ cs) c x = omega (arith, total_behind speed cs c x)

-- with the next task's demand the sum is that of one task more
pub total_more :
    (cs : List Curve) (count : ℕ) (speed : Speed) (x : ℕ) {sum here : ℕ} → count < length cs
    → sum ≡ total_at speed (take count cs) x → here ≡ demand_at speed (get_or cs count no_curve) x
    → sum + here ≡ total_at speed (take (count + 1) cs) x
total_more cs count speed x low is more =
    rw (is, more, take_more cs count no_curve low) (sym (total_behind speed (take count cs) _ x))

-- Room, up to one tick past the last that may be asked for

-- what all tasks ask for at most
abbrev pub most_work : ℕ
most_work = most_tasks * (largest_part * largest_volume * (most_tick + 2))

total_le :
    (speed : Speed) (cs : List Curve) (x : ℕ) → Each Limited cs → speed.q ≤ largest_part → x ≤ most_tick + 1
    → total_at speed cs x ≤ length cs * (largest_part * largest_volume * (most_tick + 2))
total_le speed [] x h low tick = omega arith
total_le speed (c ∷ cs) x h low tick =
    let ticks : x + 1 ≤ most_tick + 2 = omega arith in
    let here : demand_at speed c x ≤ largest_part * largest_volume * (most_tick + 2) =
    le_trans (demand_le speed.p speed.q c x h.0.lawful) (mul-le-mul (mul-le-mul low h.0.volume) ticks) in
    let rest = total_le speed cs x h.1 low tick in
    omega arith

module _
    (charts : List Chart) (count : ℕ) (speed : Speed) (x : ℕ) {sum : ℕ} (is : sum ≡ total_at speed (take count (curves charts)) x)
    (few : length charts ≤ most_tasks) (range : SpeedInRange speed) (tick : x ≤ most_tick + 1) where
  total_most : sum ≤ most_work
  total_most =
      let first : List Curve = take count (curves charts) in
      let number : length first ≤ most_tasks = omega (arith, length-take count (curves charts), curves_count charts) in
      rw is
      (le_trans (total_le speed first x (each_first Limited count (curves charts) (each_limited charts)) (parts speed range).1 tick)
      (mul-le-mul_right (largest_part * largest_volume * (most_tick + 2)) number))

  pub total_room : sum < word
  total_room = lt_of_le_of_lt total_most (lit< tt)

  -- the side of the test that has it
  pub scaled_most : speed.p * sum ≤ largest_part * most_work
  scaled_most = mul-le-mul (parts speed range).0 total_most

  pub scaled_room : speed.p * sum < word
  scaled_room = lt_of_le_of_lt scaled_most (lit< tt)
