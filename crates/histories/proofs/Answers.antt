-- What judge's answers say of histories: number 0 of all of them, number 9 of some.
use Prim.Native.Nat.{ℕ, ◌*◌, ◌≤◌, ◌<◌}
use mathlib.Core.Path.{◌≡◌}
use mathlib.Core.List.{List}
use native.Mathlib.Omega.{arith}
use Rattle.model.specs.Curve.{Curve, bound, accepted, dense, overrun}
use Rattle.model.specs.Speeds.{SpeedUsed, named, default}
use Rattle.model.specs.Records.{tasks_at, reading, task_at}
use Rattle.model.specs.Entries.{tasks_of, Answer, Judged, bad_call, unread, long_cycle, judged, at_speed}
use Rattle.model.proofs.Lists.{Each, each_map}
use Rattle.model.proofs.Speeds.{speed_kept}
use Rattle.model.proofs.Readable.{Readable}
use Rattle.model.proofs.Reading.{readable, read_numbers}
use Rattle.histories.specs.History.{Release}
use Rattle.histories.specs.Worst.{Constrained, Histories, inside_all}
use Rattle.histories.proofs.Verdicts.{accepted_runs, overrun_runs}

-- the tasks of a readable set are constrained
pub read_constrained : (bytes ps : List ℕ) → reading bytes ≡ tasks_at ps → Each Constrained (tasks_of bytes ps)
read_constrained bytes ps read =
    each_map (λ place. Readable (task_at bytes place)) Constrained (task_at bytes) ps
    (λ place r. record { some = r.deadline_low; within = r.deadline_high }) (readable bytes ps read)

-- a time unit has ticks at the speed used
used_some : {m p q : ℕ} {cs : List Curve} {a b : ℕ} → SpeedUsed m p q cs a b → 0 < a
used_some {p = p} {q = q} (named fits) = (speed_kept p q fits).0
used_some (default a b zero speed) = (speed_kept a b speed.range).0

-- 0: however the tasks are released, those releases that count run inside no more than the bound
pub zero_runs :
    (bytes : List ℕ) (m p q : ℕ) {answer : Answer} → Judged bytes m p q answer → answer.number ≡ 0
    → (ps : List ℕ) × (reading bytes ≡ tasks_at ps)
    × ((rss : List (List Release)) → Histories answer.p (tasks_of bytes ps) rss → (a x : ℕ)
    → answer.p * inside_all answer.p answer.q a x (tasks_of bytes ps) rss ≤ bound m answer.p answer.q * x)
zero_runs bytes m p q (bad_call e) is = absurd (omega (arith, is))
zero_runs bytes m p q (unread number place e read) is = absurd (let low = read_numbers bytes number place read in omega (arith, is))
zero_runs bytes m p q (long_cycle ps e read long) is = absurd (omega (arith, is))
zero_runs bytes m p q (judged ps accepted _ _ e read short (at_speed _ a b used verdict)) is =
    (ps, read, accepted_runs m a b (tasks_of bytes ps) (used_some used) (read_constrained bytes ps read) verdict)
zero_runs bytes m p q (judged ps (dense i) a b e read short finds) is = absurd (omega (arith, is))
zero_runs bytes m p q (judged ps (overrun x w) a b e read short finds) is = absurd (omega (arith, is))

-- 9: in some interval of x ticks some releases of the tasks run W inside, which is more than the bound
pub nine_runs :
    (bytes : List ℕ) (m p q : ℕ) {answer : Answer} → Judged bytes m p q answer → answer.number ≡ 9
    → (ps : List ℕ) × (reading bytes ≡ tasks_at ps)
    × ((a : ℕ) × (rss : List (List Release)) × Histories answer.p (tasks_of bytes ps) rss
    × (inside_all answer.p answer.q a answer.x (tasks_of bytes ps) rss ≡ answer.w)
    × (bound m answer.p answer.q * answer.x < answer.p * answer.w))
nine_runs bytes m p q (bad_call e) is = absurd (omega (arith, is))
nine_runs bytes m p q (unread number place e read) is = absurd (let low = read_numbers bytes number place read in omega (arith, is))
nine_runs bytes m p q (long_cycle ps e read long) is = absurd (omega (arith, is))
nine_runs bytes m p q (judged ps accepted a b e read short finds) is = absurd (omega (arith, is))
nine_runs bytes m p q (judged ps (dense i) a b e read short finds) is = absurd (omega (arith, is))
nine_runs bytes m p q (judged ps (overrun x w) _ _ e read short (at_speed _ a b used verdict)) is =
    (ps, read, overrun_runs m a b x w (tasks_of bytes ps) (read_constrained bytes ps read) verdict)
