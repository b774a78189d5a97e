-- A judge that computes: it looks at one common cycle, and so finds what is right of every tick.
use Prim.Native.Nat.{ℕ}
use mathlib.Core.Path.{◌≡◌, refl}
use mathlib.Core.Bool.{Bool, true, false, cond}
use mathlib.Core.List.{List, [], ◌∷◌}
use native.Mathlib.Omega.{arith}
use lib.Dec.{leb}
use borrow.Author.Tests.{leb-true, leb-false, le-leb, lt-leb}
use Rattle.model.specs.Limits.{most_cycle}
use Rattle.model.specs.Curve.{Curve, curve_of, common_cycle}
use Rattle.model.specs.Records.{Reading, tasks_at, refused, reading, task_at}
use Rattle.model.specs.Lawful.{Lawful}
use Rattle.model.specs.Entries.{Answer, refusal, answer_of, Finds, Judged, bad_call, unread, long_cycle, judged, judge_takes, tasks_of, curves_at}
use Rattle.model.proofs.Lists.{Each, each_map}
use Rattle.model.proofs.TaskCurve.{curve_lawful}
use Rattle.model.proofs.Cycle.{Periodic, IsCycle, cycle_is}
use Rattle.model.proofs.Finding.{finding, finding_is, finds_once}
use Rattle.model.proofs.Readable.{Readable}
use Rattle.model.proofs.Reading.{readable}

judge_read : List ℕ → Reading → ℕ → ℕ → ℕ → Answer
judge_read bytes (refused number place) m p q = refusal number place
judge_read bytes (tasks_at ps) m p q =
    let h = common_cycle (curves_at bytes ps) in
    let f = finding m p q (curves_at bytes ps) h in
    cond (leb h most_cycle) (answer_of ps f.0 f.1 f.2) (refusal 7 0)

unfoldable pub judge : List ℕ → ℕ → ℕ → ℕ → Answer
unfolding judge_read
judge bytes m p q =
    let heard = judge_read bytes (reading bytes) m p q in
    cond (judge_takes m p q) heard (refusal 1 0)

-- what the reader knows of each task makes its curve lawful
pub readable_lawful : (bytes : List ℕ) (ps : List ℕ) → reading bytes ≡ tasks_at ps → Each Lawful (curves_at bytes ps)
readable_lawful bytes ps e =
    each_map Readable Lawful curve_of (tasks_of bytes ps) (λ t r. curve_lawful t r.deadline_low r.deadline_high)
    (each_map (λ place. Readable (task_at bytes place)) Readable (task_at bytes) ps (λ place r. r) (readable bytes ps e))

-- a lawful curve has a period
pub lawful_cycle : (cs : List Curve) → Each Lawful cs → IsCycle cs (common_cycle cs)
lawful_cycle cs laws = cycle_is cs (periodic cs laws)
  where
    periodic : (ds : List Curve) → Each Lawful ds → Periodic ds
    periodic [] h = tt
    periodic (c ∷ ds) h = ((let a = h.0.some in let b = h.0.constrained in omega arith), periodic ds h.1)

-- on a readable set a search over one common cycle finds what the call finds
pub finding_right :
    (bytes ps : List ℕ) (m p q : ℕ) → judge_takes m p q ≡ true → reading bytes ≡ tasks_at ps
    → let cs = curves_at bytes ps in let f = finding m p q cs (common_cycle cs) in Finds m p q cs f.0 f.1 f.2
finding_right bytes ps m p q takes read =
    let laws = readable_lawful bytes ps read in
    let cycle = lawful_cycle (curves_at bytes ps) laws in
    finding_is m p q (common_cycle (curves_at bytes ps)) (curves_at bytes ps) takes cycle.some laws cycle.cycles

-- the judge that computes satisfies the statement of judge
pub judge_is : (bytes : List ℕ) (m p q : ℕ) → Judged bytes m p q (judge bytes m p q)
unfolding judge judge_read
judge_is bytes m p q = call (judge_takes m p q) refl (reading bytes) refl
  where
    call :
        (c : Bool) → judge_takes m p q ≡ c → (r : Reading) → reading bytes ≡ r
        → Judged bytes m p q (cond c (judge_read bytes r m p q) (refusal 1 0))
    call false e r d = bad_call e
    call true e (refused number place) d = unread number place e d
    call true e (tasks_at ps) d =
        let h = common_cycle (curves_at bytes ps) in
        let f = finding m p q (curves_at bytes ps) h in
        let long : (l : Bool) → leb h most_cycle ≡ l → Judged bytes m p q (cond l (answer_of ps f.0 f.1 f.2) (refusal 7 0)) =
        λ l. elim l as (λ k. leb h most_cycle ≡ k → Judged bytes m p q (cond k (answer_of ps f.0 f.1 f.2) (refusal 7 0))) [
          | true ↦ λ within.
              judged ps f.0 f.1 f.2 e d (leb-true h most_cycle within) (finding_right bytes ps m p q e d)
          | false ↦ λ over. long_cycle ps e d (leb-false h most_cycle over)
        ] in
        long (leb h most_cycle) refl

-- and it is the only answer that does
pub judge_only : (bytes : List ℕ) (m p q : ℕ) {answer : Answer} → Judged bytes m p q answer → answer ≡ judge bytes m p q
unfolding judge judge_read
judge_only bytes m p q (bad_call e) = rw e
judge_only bytes m p q (unread number place e d) = rw (e, d)
judge_only bytes m p q (long_cycle ps e d h) = rw (e, d, lt-leb (common_cycle (curves_at bytes ps)) most_cycle h)
judge_only bytes m p q (judged ps o a b e d h finds) =
    rw (e, d, le-leb (common_cycle (curves_at bytes ps)) most_cycle h)
    (finds_once (answer_of ps) finds (finding_right bytes ps m p q e d))
