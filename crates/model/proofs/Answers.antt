-- The answers of the four entries: each is unique, judge accepts exactly the right sets, an overrun that it names is the least and
-- lies within one common cycle, and relief never hurts.
use Prim.Native.Nat.{ℕ, ◌≤◌, ◌<◌}
use mathlib.Core.Path.{◌≡◌, refl, sym, ◌∙◌, ap, subst}
use mathlib.Core.Bool.{true, false, ◌||◌}
use mathlib.Core.List.{List}
use mathlib.Core.Logic.{◌⊎◌, inl, inr, ◌↔◌}
use native.Mathlib.Omega.{arith}
use lib.Dec.{leb}
use lib.ListN.{get_or}
use borrow.Author.Tests.{le-leb}
use Rattle.model.specs.Limits.{most_processors, largest_part, most_cycle}
use Rattle.model.specs.Curve.{Curve, Outcome, accepted, dense, overrun, Verdict, refuses, names, FirstDense, overruns, total, common_cycle}
use Rattle.model.specs.Speeds.{speed_fits, rack_fits, unnamed, SpeedUsed, named, default}
use Rattle.model.specs.Named.{MayShare, Dense, Overrun}
use Rattle.model.specs.Relief.{Relief}
use Rattle.model.specs.Records.{tasks_at, reading}
use Rattle.model.specs.Entries.{Answer, answer_of, Finds, at_speed, exceeds, Judged, bad_call, unread, long_cycle, judged, judge_takes, tasks_of, curves_at}
use Rattle.model.proofs.Ranges.{and_both, or_right, not_both}
use Rattle.model.proofs.TaskCurve.{curves_eased}
use Rattle.model.proofs.Speeds.{speed_kept}
use Rattle.model.proofs.Verdicts.{verdict_once, fit_not_dense, accepted_exactly, overrun_within}
use Rattle.model.proofs.ReliefOnCurves.{relief_accepts, relief_later}
use Rattle.model.proofs.Reading.{read_numbers}
use Rattle.model.proofs.Finding.{call_sized, not_zero, used_fits, finding, finds_named}
use Rattle.model.proofs.Judge.{judge, judge_only, finding_right, readable_lawful, lawful_cycle}

-- Two answers that satisfy one statement are equal.

pub judged_once :
    (bytes : List ℕ) (m p q : ℕ) {a b : Answer} → Judged bytes m p q a → Judged bytes m p q b → a ≡ b
judged_once bytes m p q j k = judge_only bytes m p q j ∙ sym (judge_only bytes m p q k)

-- figures, demand and layers state their answer as an equation
pub answer_once : {A : Type 0} {right a b : A} → a ≡ right → b ≡ right → a ≡ b
answer_once h k = h ∙ sym k

-- What judge finds behind an answer 0, 8 or 9.
pub record Heard (bytes : List ℕ) (m p q : ℕ) (answer : Answer) : Type 0 where
  pub places : List ℕ
  pub outcome : Outcome
  pub a : ℕ
  pub b : ℕ
  pub takes : judge_takes m p q ≡ true
  pub read : reading bytes ≡ tasks_at places
  pub short : common_cycle (curves_at bytes places) ≤ most_cycle
  pub finds : Finds m p q (curves_at bytes places) outcome a b
  pub answers : answer ≡ answer_of places outcome a b

-- A number that is no refusal of the call, of the bytes or of the cycle has a finding behind it.
pub heard :
    (bytes : List ℕ) (m p q : ℕ) {a : Answer} → Judged bytes m p q a → (a.number ≡ 0) ⊎ (7 < a.number)
    → Heard bytes m p q a
heard bytes m p q (bad_call e) (inl n) = absurd (omega arith)
heard bytes m p q (bad_call e) (inr n) = absurd (omega arith)
heard bytes m p q (unread number place e d) (inl n) = absurd (let r = read_numbers bytes number place d in omega arith)
heard bytes m p q (unread number place e d) (inr n) = absurd (let r = read_numbers bytes number place d in omega arith)
heard bytes m p q (long_cycle ps e d h) (inl n) = absurd (omega arith)
heard bytes m p q (long_cycle ps e d h) (inr n) = absurd (omega arith)
heard bytes m p q (judged ps o a b e d h finds) n =
    record { places = ps; outcome = o; a = a; b = b; takes = e; read = d; short = h; finds = finds; answers = refl }

-- The outcome behind each number

accepts_zero :
    {m p q : ℕ} {cs : List Curve} (ps : List ℕ) (o : Outcome) (a b : ℕ) → Finds m p q cs o a b
    → (answer_of ps o a b).number ≡ 0 → Finds m p q cs accepted a b
accepts_zero ps accepted a b finds e = finds
accepts_zero ps (dense i) a b finds e = absurd (omega arith)
accepts_zero ps (overrun x w) a b finds e = absurd (omega arith)

names_eight :
    {m p q : ℕ} {cs : List Curve} (ps : List ℕ) (o : Outcome) (a b : ℕ) → Finds m p q cs o a b
    → (answer_of ps o a b).number ≡ 8
    → (i : ℕ) × Finds m p q cs (dense i) a b × ((answer_of ps o a b).place ≡ get_or ps i 0)
names_eight ps accepted a b finds e = absurd (omega arith)
names_eight ps (dense i) a b finds e = (i, finds, refl)
names_eight ps (overrun x w) a b finds e = absurd (omega arith)

names_nine :
    {m p q : ℕ} {cs : List Curve} (ps : List ℕ) (o : Outcome) (a b : ℕ) → Finds m p q cs o a b
    → (answer_of ps o a b).number ≡ 9
    → (x : ℕ) × (w : ℕ) × Finds m p q cs (overrun x w) a b
    × (answer_of ps o a b ≡ record { number = 9; place = 0; x = x; w = w; p = a; q = b })
names_nine ps accepted a b finds e = absurd (omega arith)
names_nine ps (dense i) a b finds e = absurd (omega arith)
names_nine ps (overrun x w) a b finds e = (x, w, finds, refl)

-- What is found is the verdict at the speed used; a dense task is so at the speed named, or for 0/0 at 1/1.

finds_accepted : {m p q : ℕ} {cs : List Curve} {a b : ℕ} → Finds m p q cs accepted a b → SpeedUsed m p q cs a b × Verdict m a b cs accepted
finds_accepted (at_speed o a b used v) = (used, v)

finds_overrun :
    {m p q : ℕ} {cs : List Curve} {x w a b : ℕ} → Finds m p q cs (overrun x w) a b
    → SpeedUsed m p q cs a b × Verdict m a b cs (overrun x w)
finds_overrun (at_speed o a b used v) = (used, v)

dense_facts : {m p q : ℕ} {cs : List Curve} {i : ℕ} → Verdict m p q cs (dense i) → FirstDense p q cs i
dense_facts (refuses i first) = first

finds_dense :
    {m p q : ℕ} {cs : List Curve} {i a b : ℕ} → Finds m p q cs (dense i) a b
    → (unnamed p q ≡ false → FirstDense p q cs i) × (unnamed p q ≡ true → FirstDense 1 1 cs i)
finds_dense {p = p} {q = q} (at_speed o a b (named fits) v) = (λ n. dense_facts v, λ z. absurd (not_zero p q fits z))
finds_dense {cs = cs} {i = i} (at_speed o a b (default c d zero speed) v) =
    absurd (fit_not_dense a b cs i speed.enough.1 (dense_facts v))
finds_dense {p = p} {q = q} (exceeds i zero first) = (λ n. absurd (not_both (unnamed p q) zero n), λ z. first)

-- A readable set whose common cycle is within the limit has a finding behind judge's answer.
heard_readable :
    (bytes ps : List ℕ) (m p q : ℕ) {answer : Answer} → judge_takes m p q ≡ true → reading bytes ≡ tasks_at ps
    → common_cycle (curves_at bytes ps) ≤ most_cycle → Judged bytes m p q answer
    → (o : Outcome) × (a : ℕ) × (b : ℕ) × Finds m p q (curves_at bytes ps) o a b × (answer ≡ answer_of ps o a b)
unfolding judge
heard_readable bytes ps m p q e d h j =
    let h' = common_cycle (curves_at bytes ps) in
    let f = finding m p q (curves_at bytes ps) h' in
    (f.0, f.1, f.2, finding_right bytes ps m p q e d, judge_only bytes m p q j ∙ rw (e, d, le-leb h' most_cycle h))

-- Demand 2: such a set is accepted exactly when every task fits at the speed used and no tick at all overruns there.
pub accepted_when :
    (bytes ps : List ℕ) (m p q : ℕ) {answer : Answer} → judge_takes m p q ≡ true → reading bytes ≡ tasks_at ps
    → common_cycle (curves_at bytes ps) ≤ most_cycle → Judged bytes m p q answer
    → (answer.number ≡ 0) ↔ MayShare m p q (curves_at bytes ps)
accepted_when bytes ps m p q {answer} e d h j = (forth, back)
  where
    forth : answer.number ≡ 0 → MayShare m p q (curves_at bytes ps)
    forth n =
        let r = heard_readable bytes ps m p q e d h j in
        let at = finds_accepted (accepts_zero ps r.0 r.1 r.2 r.3 (sym (ap (λ (z : Answer). z.number) r.4) ∙ n)) in
        (r.1, r.2, at.0, accepted_exactly.0 at.1)

    back : MayShare m p q (curves_at bytes ps) → answer.number ≡ 0
    back fine =
        let finds = at_speed accepted fine.0 fine.1 fine.2 (accepted_exactly.1 fine.3) in
        ap (λ (z : Answer). z.number) (judged_once bytes m p q j (judged ps accepted fine.0 fine.1 e d h finds))

-- "otherwise": it is dense or overruns
pub refused_otherwise :
    (bytes ps : List ℕ) (m p q : ℕ) {a : Answer} → judge_takes m p q ≡ true → reading bytes ≡ tasks_at ps
    → common_cycle (curves_at bytes ps) ≤ most_cycle → Judged bytes m p q a
    → (a.number ≡ 0) ⊎ ((a.number ≡ 8) ⊎ (a.number ≡ 9))
refused_otherwise bytes ps m p q {a} e d h j =
    let r = heard_readable bytes ps m p q e d h j in numbered r.0 r.1 r.2 (ap (λ (z : Answer). z.number) r.4)
  where
    numbered :
        (o : Outcome) (c d : ℕ) → a.number ≡ (answer_of ps o c d).number
        → (a.number ≡ 0) ⊎ ((a.number ≡ 8) ⊎ (a.number ≡ 9))
    numbered accepted c d n = inl n
    numbered (dense i) c d n = inr (inl n)
    numbered (overrun x w) c d n = inr (inr n)

-- 8 names the record of the first dense task
pub dense_first :
    (bytes : List ℕ) (m p q : ℕ) {a : Answer} → Judged bytes m p q a → a.number ≡ 8 → Dense bytes p q a
dense_first bytes m p q {a} j n =
    let h = heard bytes m p q j (inr (omega arith)) in
    let number = sym (ap (λ (z : Answer). z.number) h.answers) ∙ n in
    let eight = names_eight h.places h.outcome h.a h.b h.finds number in
    let first = finds_dense eight.1 in
    record {
      places = h.places;
      task = eight.0;
      read = h.read;
      named = first.0;
      default = first.1;
      place = ap (λ (z : Answer). z.place) h.answers ∙ eight.2;
    }

-- 9 names the least overrun

overrun_facts :
    {m p q : ℕ} {cs : List Curve} {x w : ℕ} → Verdict m p q cs (overrun x w)
    → (overruns m p q cs x ≡ true) × ((y : ℕ) → y < x → overruns m p q cs y ≡ false) × (w ≡ total p q cs x)
overrun_facts (names x w fit over before work) = (over, before, work)

pub overrun_least :
    (bytes : List ℕ) (m p q : ℕ) {a : Answer} → Judged bytes m p q a → a.number ≡ 9 → Overrun bytes m p q a
overrun_least bytes m p q {a} j n =
    let h = heard bytes m p q j (inr (omega arith)) in
    let cs = curves_at bytes h.places in
    let number = sym (ap (λ (z : Answer). z.number) h.answers) ∙ n in
    let nine = names_nine h.places h.outcome h.a h.b h.finds number in
    let at = finds_overrun nine.2 in
    let facts = overrun_facts at.1 in
    let laws = readable_lawful bytes h.places h.read in
    let cycle = lawful_cycle cs laws in
    let kept = speed_kept h.a h.b (used_fits at.0) in
    let within = overrun_within m h.a h.b (common_cycle cs) cs kept.0 cycle.some laws cycle.cycles at.1 in
    subst (λ (z : Answer). Overrun bytes m p q z) (sym (h.answers ∙ nine.3))
    (record { places = h.places; read = h.read; used = at.0; over = facts.0; before = facts.1; work = facts.2; within = within })

-- Demand 3: relief never hurts.

module _ (old new : List ℕ) (m n p q : ℕ) (r : Relief old new m n p q) where
  kept : (1 ≤ p) × (p ≤ q) × (q ≤ largest_part)
  kept = speed_kept p q r.speed

  -- the finding behind the old answer, on the places that the relief speaks of
  old_finds : {a : Answer} → (h : Heard old m p q a) → Finds m p q (curves_at old r.old_places) h.outcome h.a h.b
  old_finds h =
      let same : h.places ≡ r.old_places = cc (h.read, r.old_read) in
      subst (λ (ps : List ℕ). Finds m p q (curves_at old ps) h.outcome h.a h.b) same h.finds

  new_takes : judge_takes m p q ≡ true → judge_takes n p q ≡ true
  new_takes e =
      let sized = call_sized m p q e in
      let up = r.processors in
      and_both (rack_fits n) (unnamed p q || speed_fits p q)
      (and_both (leb 1 n) (leb n most_processors) (le-leb 1 n (omega arith)) (le-leb n most_processors r.most))
      (or_right (unnamed p q) (speed_fits p q) r.speed)

  -- the verdict behind the new answer, at the named speed
  new_verdict :
      {answer : Answer} → judge_takes m p q ≡ true → Judged new n p q answer
      → (o : Outcome) × (a : ℕ) × (b : ℕ) × Verdict n p q (curves_at new r.new_places) o × (answer ≡ answer_of r.new_places o a b)
  new_verdict e j =
      let h = heard_readable new r.new_places n p q (new_takes e) r.new_read r.short j in
      (h.0, h.1, h.2, finds_named r.speed h.3, h.4)

  -- "an accepted set stays accepted"
  pub stays_accepted : {a b : Answer} → Judged old m p q a → Judged new n p q b → a.number ≡ 0 → b.number ≡ 0
  stays_accepted j k zero =
      let h = heard old m p q j (inl zero) in
      let number = sym (ap (λ (z : Answer). z.number) h.answers) ∙ zero in
      let v = finds_named r.speed (accepts_zero h.places h.outcome h.a h.b (old_finds h) number) in
      let w = new_verdict h.takes k in
      let fine =
      relief_accepts p q kept.0 kept.1 r.processors (curves_eased (tasks_of old r.old_places) (tasks_of new r.new_places) r.relieved)
      (readable_lawful old r.old_places r.old_read) (readable_lawful new r.new_places r.new_read) v in
      ap (λ (z : Answer). z.number) (w.4 ∙ ap (λ o. answer_of r.new_places o w.1 w.2) (verdict_once w.3 fine))

  old_overrun :
      {a : Answer} → Heard old m p q a → a.number ≡ 9
      → (x : ℕ) × (w : ℕ) × Verdict m p q (curves_at old r.old_places) (overrun x w) × (a.x ≡ x)
  old_overrun h nine =
      let number = sym (ap (λ (z : Answer). z.number) h.answers) ∙ nine in
      let over = names_nine h.places h.outcome h.a h.b (old_finds h) number in
      (over.0, over.1, finds_named r.speed over.2, ap (λ (z : Answer). z.x) h.answers ∙ ap (λ (z : Answer). z.x) over.3)

  -- "an overrun comes no sooner": none is left, or the one named is no shorter
  pub comes_no_sooner :
      {a b : Answer} → Judged old m p q a → Judged new n p q b → a.number ≡ 9
      → (b.number ≡ 0) ⊎ ((b.number ≡ 9) × (a.x ≤ b.x))
  comes_no_sooner {a} {b} j k nine =
      let h = heard old m p q j (inr (omega arith)) in
      let over = old_overrun h nine in
      let ax = over.3 in
      let v = over.2 in
      let w = new_verdict h.takes k in
      elim (relief_later p q kept.0 kept.1 r.processors (curves_eased (tasks_of old r.old_places) (tasks_of new r.new_places) r.relieved)
      (readable_lawful old r.old_places r.old_read) (readable_lawful new r.new_places r.new_read) v w.3) [
        | inl fine ↦ inl (ap (λ (z : Answer). z.number) (w.4 ∙ ap (λ o. answer_of r.new_places o w.1 w.2) fine))
        | inr later ↦
            let e = w.4 ∙ ap (λ o. answer_of r.new_places o w.1 w.2) later.2 in
            inr (ap (λ (z : Answer). z.number) e, (let bx = ap (λ (z : Answer). z.x) e in let l = later.3 in omega arith))
      ]
