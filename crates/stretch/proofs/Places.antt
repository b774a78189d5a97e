-- What is kept of a task: nothing, one more stretch; and that of one task among all.
use Prim.Native.Nat.{ℕ, ◌+◌, ◌-◌, ◌≤◌, ◌<◌}
use mathlib.Core.Path.{◌≡◌, sym, ◌∙◌, ap, subst}
use mathlib.Core.List.{List}
use mathlib.Core.Logic.{inl, inr}
use native.Mathlib.Omega.{arith}
use lib.Dec.{eqb, ltb}
use lib.ListN.{length, get_or, set, replicate, length-set, get_or-replicate, get_or-eq_default}
use lib.Seq.{get_or-set_same, get_or-set_other}
use borrow.Author.Tests.{eqb-true, eqb-false, ltb-true, ltb-false}
use Rattle.model.specs.Limits.{most_tasks}
use Rattle.model.specs.Curve.{Curve}
use Rattle.model.specs.Lawful.{Limited}
use Rattle.model.proofs.Ranges.{decided}
use Rattle.units.specs.declared.Speed.{Speed}
use Rattle.units.specs.Rack.{SpeedInRange}
use Rattle.curve.specs.declared.chart.Chart.{Chart}
use Rattle.curve.specs.Charts.{curves, no_curve}
use Rattle.curve.proofs.Charts.{curves_count, limited_at}
use Rattle.demand.specs.Rows.{Timely}
use Rattle.stretch.specs.Stretches.{AtSpeed, Stretches, Kept, AllKept}
use Rattle.places.specs.declared.Stretch.{Stretch}
use Rattle.places.specs.declared.Notes.{Notes}
use Rattle.places.specs.OneStretch.{no_stretch, end_of, grown}
use Rattle.places.specs.Places.{stretch_in, Next}
use Rattle.stretch.proofs.Period.{joined, nought}

module _ {speed : Speed} {c : Curve} {notes : Notes} (before : Kept speed c notes) where
  -- a stretch put at a place
  put_each :
      (k : ℕ) {s : Stretch} → k < 64 → Stretches speed c s → (place : ℕ) → place < 64
      → Stretches speed c (get_or (set notes.stretches k s) place no_stretch)
  put_each k {s} low is place within =
      elim (decided (eqb place k)) [
        | inl e ↦ rw (eqb-true place k e, get_or-set_same notes.stretches k s no_stretch (omega (arith, notes.wide))) is
        | inr e ↦ rw (get_or-set_other notes.stretches k place s no_stretch (eqb-false place k e)) (before.each place within)
      ]

  -- one more stretch where the last one ends
  pub next_kept :
      {s : Stretch} {later : Notes} → notes.used < 64 → Stretches speed c s
      → (0 < notes.used → s.from.0 ≡ end_of (stretch_in notes (notes.used - 1)))
      → Next notes s later → Kept speed c later
  next_kept {s} {later} low is at next =
      let each : (place : ℕ) → place < 64 → Stretches speed c (stretch_in later place) =
      elim next.0 [
        | inl w ↦
            let k = notes.used - 1 in
            rw w.3 (put_each k (omega arith) (joined (before.each k (omega arith)) is w.1 (at w.0)))
        | inr w ↦ rw w.2 (put_each notes.used (omega arith) is)
      ] in
      record { each = each; line = rw next.1 before.line }

-- where the last of them ends then
pub next_end :
    (notes later : Notes) (s : Stretch) → notes.used < 64
    → (0 < notes.used → s.from.0 ≡ end_of (stretch_in notes (notes.used - 1)))
    → Next notes s later
    → s.from.0 + s.run.0 ≡ end_of (stretch_in later (later.used - 1))
next_end notes later s low at next = elim next.0 [
  | inl w ↦
      let k = notes.used - 1 in
      let ends = ap end_of (get_or-set_same notes.stretches k (grown (stretch_in notes k) s) no_stretch (omega (arith, notes.wide))) in
      rw (w.2, w.3) (omega (arith, at w.0, ends))
  | inr w ↦
      let last : later.used - 1 ≡ notes.used = omega (arith, w.1) in
      rw (last, w.2) (sym (ap end_of (get_or-set_same notes.stretches notes.used s no_stretch (omega (arith, notes.wide)))))
]

none_kept :
    {speed : Speed} {c : Curve} {notes : Notes} → Limited c → AtSpeed speed c → notes.stretches ≡ replicate 64 no_stretch
    → notes.line ≡ no_stretch
    → Kept speed c notes
none_kept limited at places line =
    let none = nought limited at in
    record {
      each = λ place within. rw (places, get_or-replicate 64 place no_stretch no_stretch within) none;
      line = rw line (record { begins = omega arith; short = omega arith; on = none.on });
    }

-- what is kept of task i anew, among that of all
pub again_kept :
    {speed : Speed} (cs : List Curve) (kept : List Notes) (i : ℕ) {new : Notes}
    → AllKept cs speed kept → i < length cs → Kept speed (get_or cs i no_curve) new
    → AllKept cs speed (set kept i new)
again_kept {speed} cs kept i {new} before low now j within past =
    elim (decided (eqb j i)) [
      | inl e ↦
          rw (eqb-true j i e)
          (elim (decided (ltb i (length kept))) [
            | inl e ↦ rw (get_or-set_same kept i new past (ltb-true i (length kept) e)) now
            | inr e ↦
                let out = ltb-false i (length kept) e in
                let none = get_or-eq_default kept past {n = i} out in
                let still = get_or-eq_default (set kept i new) past {n = i} (rw (length-set kept i new) out) in
                subst (Kept speed (get_or cs i no_curve)) (none ∙ sym still) (before i low past)
          ])
      | inr e ↦ rw (get_or-set_other kept i j new past (eqb-false j i e)) (before j within past)
    ]

-- no stretch of any task is kept yet
pub none_all :
    (notes : Notes) (charts : List Chart) (speed : Speed) → length charts ≤ most_tasks → SpeedInRange speed → Timely (curves charts) speed
    → notes.stretches ≡ replicate 64 no_stretch → notes.line ≡ no_stretch
    → AllKept (curves charts) speed (replicate most_tasks notes)
none_all notes charts speed few range timely places line i low past =
    let there : i < length charts = omega (arith, curves_count charts) in
    rw (get_or-replicate most_tasks i notes past (omega arith))
    (none_kept (limited_at charts i there) (range, timely i low) places line)
