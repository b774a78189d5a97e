-- The common cycle of the tasks at a list of places: their periods are such as it takes, and what is found of it.
use Prim.Native.Nat.{ℕ, zero, suc, ◌≤◌, ◌<◌}
use mathlib.Core.Path.{◌≡◌, refl, sym, ◌∙◌, ap, subst}
use mathlib.Core.Bool.{Bool, true, false, cond}
use mathlib.Core.List.{List, [], ◌∷◌}
use native.Mathlib.Nat.{not-suc-le-zero}
use native.Mathlib.Omega.{arith}
use lib.Dec.{leb}
use lib.ListN.{length, get_or, length-map}
use borrow.Author.Tests.{leb-true, leb-false}
use Rattle.std.proofs.Common.{Option, Some, None}
use Rattle.model.specs.Limits.{longest_period, most_cycle}
use Rattle.model.specs.Curve.{curve_of, cycle_from, common_cycle}
use Rattle.model.specs.Records.{task_at}
use Rattle.model.specs.Entries.{tasks_of, curves_at}
use Rattle.records.specs.Rows.{ReadableAt}
use Rattle.records.proofs.ReadableTask.{readable_at}
use Rattle.cycle.specs.Limit.{within}
use Rattle.verdict.proofs.PeriodTable.{periods_of}

-- the cycle takes the period of a task that can be read
period_kept :
    (bytes places : List ℕ) → ((i : ℕ) → i < length places → ReadableAt bytes (get_or places i 0)) → (i : ℕ)
    → i < length places
    → let period = get_or (periods_of (curves_at bytes places)) i 0 in
    (1 ≤ period) × (period ≤ longest_period)
unfolding curve_of
period_kept bytes [] readable i l = absurd (not-suc-le-zero l)
period_kept bytes (place ∷ places) readable zero l =
    let task = readable_at bytes place (readable 0 l) in (omega arith, task.period_high)
period_kept bytes (place ∷ places) readable (suc i) l =
    period_kept bytes places (λ j m. readable (suc j) (omega arith)) i (omega arith)

-- what is found of a cycle h
abbrev Says : ℕ → Option ℕ → Type 0
Says h (Some k) = (k ≡ h) × (k ≤ most_cycle)
Says h None = most_cycle < h

says : (h : ℕ) → Says h (within h)
unfolding within
says h = go (leb h most_cycle) refl
  where
    go : (b : Bool) → leb h most_cycle ≡ b → Says h (cond b (Some h) None)
    go true e = (refl, leb-true h most_cycle e)
    go false e = leb-false h most_cycle e

module _ (bytes places : List ℕ) {periods : List ℕ} (is : periods ≡ periods_of (curves_at bytes places)) where
  as_many : length places ≡ length periods
  as_many =
      rw is
      (sym
      (length-map (curves_at bytes places) (λ c. c.period)
      ∙ length-map (tasks_of bytes places) curve_of
      ∙ length-map places (task_at bytes)))

  pub periods_kept :
      ((i : ℕ) → i < length places → ReadableAt bytes (get_or places i 0)) → (i : ℕ) → i < length periods
      → (1 ≤ get_or periods i 0) × (get_or periods i 0 ≤ longest_period)
  periods_kept readable i l = rw is (period_kept bytes places readable i (rw (sym as_many) at l))

  module _ {found : Option ℕ} (search : found ≡ within (cycle_from 1 periods)) where
    said : Says (common_cycle (curves_at bytes places)) found
    said = subst (Says _) (sym (search ∙ ap (λ l. within (cycle_from 1 l)) is)) (says (common_cycle (curves_at bytes places)))

    pub found_long : found ≡ None → most_cycle < common_cycle (curves_at bytes places)
    found_long told = subst (Says _) told said

    pub found_within : {h : ℕ} → found ≡ Some h → (h ≡ common_cycle (curves_at bytes places)) × (h ≤ most_cycle)
    found_within told = subst (Says _) told said
