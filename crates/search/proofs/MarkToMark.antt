-- A turn of the search forward: from a tick, by the sum of the lines, to the first overrun or to the nearest mark.
use Prim.Native.Nat.{ℕ, ◌+◌, ◌-◌, ◌*◌, ◌≤◌, ◌<◌}
use mathlib.Core.Path.{◌≡◌, sym, ◌∙◌, ap, subst}
use mathlib.Core.Bool.{true, false}
use mathlib.Core.List.{List}
use mathlib.Core.Logic.{inl, inr}
use native.Mathlib.Nat.{lt_of_le_of_lt, mul-one, mul-le-mul_left}
use native.Mathlib.Omega.{arith}
use lib.Dec.{ltb}
use lib.ListN.{length, take}
use lib.Seq.{take-length}
use Rattle.std.proofs.lemmas.List.{get_or-take, length-take}
use borrow.Author.Tests.{ltb-true, ltb-false}
use Rattle.model.specs.Limits.{most_tasks, most_tick}
use Rattle.model.specs.Range.{least}
use Rattle.model.specs.Curve.{Curve, total, overruns}
use Rattle.model.proofs.Ranges.{decided, least_le, least_before, least_has}
use Rattle.model.proofs.Bounds.{word}
use Rattle.units.specs.declared.Speed.{Speed}
use Rattle.units.specs.declared.Rack.{Rack}
use Rattle.units.specs.Rack.{SpeedInRange, total_at, bound_of, overruns_on}
use Rattle.curve.specs.declared.chart.Chart.{Chart}
use Rattle.curve.specs.Charts.{curves}
use Rattle.curve.proofs.Charts.{curves_count, curve_low}
use Rattle.demand.proofs.Totals.{total_room, scaled_room}
use Rattle.search.specs.declared.marks.Mark.{Mark}
use Rattle.search.specs.Marks.{Marked, mark_at, nearest, steepness}
use Rattle.search.proofs.Marking.{nearest_end, nearest_mark, nearest_after, marked_on, total_along}

-- what a turn from tick x finds that goes `over` ticks on, where the next stop is the nearest mark or the end
pub record Stride (cs : List Curve) (rack : Rack) (x w slope next over : ℕ) (marks : List Mark) : Type 0 where
  pub within : x + over ≤ next
  pub value : w + slope * over ≡ total_at rack.speed cs (x + over)
  -- nothing before it overruns; before the next stop, it does; at the stop the lines go on
  pub clear : ((y : ℕ) → y < x → overruns_on rack cs y ≡ false) → (y : ℕ) → y < x + over → overruns_on rack cs y ≡ false
  pub found : over < next - x → overruns_on rack cs (x + over) ≡ true
  pub marked : Marked cs rack.speed (x + over) 0 marks

-- W, as the sum over as many tasks as there are
pub all_tasks : (charts : List Chart) (speed : Speed) (x : ℕ) → total_at speed (curves charts) x ≡ total_at speed (take (length charts) (curves charts)) x
all_tasks charts speed x =
    ap (λ cs. total_at speed cs x) (sym (ap (λ n. take n (curves charts)) (sym (curves_count charts)) ∙ take-length (curves charts)))

module _ (charts : List Chart) (rack : Rack) where
  abbrev cs : List Curve
  cs = curves charts

  abbrev p : ℕ
  p = rack.speed.p

  abbrev q : ℕ
  q = rack.speed.q

  module _ {x : ℕ} {marks : List Mark} (marked : Marked cs rack.speed x 1 marks) (few : length charts ≤ most_tasks) where
    -- the marks of the tasks
    abbrev theirs : List Mark
    theirs = take (length charts) marks

    as_many : length theirs ≡ length charts
    as_many = omega (arith, length-take (length charts) marks, marked.wide)

    own : (i : ℕ) → i < length charts → mark_at theirs i ≡ mark_at marks i
    own i low = get_or-take (length charts) marks i _ low

    -- what a tick adds to W
    abbrev rise : ℕ
    rise = steepness theirs

    -- up to the nearest mark W is a line
    along : (j : ℕ) → ((i : ℕ) → i < length charts → x + j ≤ (mark_at marks i).at) → total p q cs (x + j) ≡ total p q cs x + rise * j
    along j near =
        total_along rack.speed cs theirs x j (curves_count charts ∙ sym as_many) (λ i l.
        let low : i < length charts = omega (arith, l, curves_count charts) in
        rw (own i low) (marked.line i l j (near i low)))

    module _ (range : SpeedInRange rack.speed) (tick : x ≤ most_tick) where
      -- room for what a tick adds: it is no more than W at the next tick
      next_tick : total p q cs x + rise ≡ total p q cs (x + 1)
      next_tick = omega (arith, along 1 (λ i l. marked.on i (curve_low charts l)), mul-one rise)

      pub rise_room : rise < word
      rise_room =
          omega (arith, next_tick, total_room charts (length charts) rack.speed (x + 1) (all_tasks charts rack.speed (x + 1)) few range (omega arith))

      pub rise_scaled : {slope : ℕ} → slope ≡ rise → p * slope < word
      rise_scaled is =
          rw is
          (lt_of_le_of_lt (mul-le-mul_left p (omega (arith, next_tick)))
          (scaled_room charts (length charts) rack.speed (x + 1) (all_tasks charts rack.speed (x + 1)) few range (omega arith)))

    module _
        {w slope next end : ℕ} (is_w : w ≡ total p q cs x) (is_slope : slope ≡ rise) (is_next : next ≡ nearest theirs end)
        (before : x < end) where
      -- the next stop is ahead, and no further than the end or a mark
      pub stop_ahead : (x < next) × (next ≤ end)
      stop_ahead =
          rw is_next (
            nearest_after theirs end before (λ i l.
                let low : i < length charts = omega (arith, l, as_many) in
                rw (own i low) (omega (arith, marked.on i (curve_low charts low)))),
            nearest_end theirs end,
          )

      near : (j : ℕ) → x + j ≤ next → (i : ℕ) → i < length charts → x + j ≤ (mark_at marks i).at
      near j low i l =
          let ahead : x + j ≤ (mark_at theirs i).at = omega (arith, is_next, nearest_mark theirs end i (omega (arith, as_many, l))) in
          rw (own i l) at ahead

      on_way : (j : ℕ) → x + j ≤ next → w + slope * j ≡ total p q cs (x + j)
      on_way j low = rw (is_w, is_slope) (sym (along j (near j low)))

      module _
          {b over : ℕ} (is_bound : b ≡ bound_of rack)
          (first : over ≡ least (next - x) (λ j. ltb (b * (x + j)) (p * (w + slope * j)))) where
        -- the test of a tick on the way
        test : (j : ℕ) → x + j ≤ next → overruns_on rack cs (x + j) ≡ ltb (b * (x + j)) (p * (w + slope * j))
        unfolding overruns
        test j low = rw (is_bound, on_way j low)

        over_within : x + over ≤ next
        over_within =
            let ahead = stop_ahead.0 in
            omega (arith, first, least_le (next - x) (λ j. ltb (b * (x + j)) (p * (w + slope * j))))

        -- nothing before it overruns
        clear_before :
            ((y : ℕ) → y < x → overruns_on rack cs y ≡ false) → (y : ℕ) → y < x + over → overruns_on rack cs y ≡ false
        clear_before clear y low =
            elim (decided (ltb y x)) [
              | inl l ↦ clear y (ltb-true y x l)
              | inr g ↦
                  let back : x + (y - x) ≡ y = omega (arith, ltb-false y x g) in
                  let inside = over_within in
                  subst (λ z. overruns_on rack cs z ≡ false) back
                  (test (y - x) (omega arith)
                  ∙ least_before (next - x) (λ j. ltb (b * (x + j)) (p * (w + slope * j))) (y - x) (rw (← first) (omega arith)))
            ]

        -- before the next stop, it does
        over_there : over < next - x → overruns_on rack cs (x + over) ≡ true
        over_there low =
            test over over_within
            ∙ rw first (least_has (next - x) (λ j. ltb (b * (x + j)) (p * (w + slope * j))) (rw first at low))

        -- all of a turn
        pub stride : Stride cs rack x w slope next over marks
        stride = record {
          within = over_within;
          value = on_way over over_within;
          clear = clear_before;
          found = over_there;
          marked = marked_on cs rack.speed marked over (λ i l. near over over_within i (omega (arith, l, curves_count charts)));
        }
