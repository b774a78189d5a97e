-- What a call of judge finds of tasks, and the speed that it uses: one thing, and a search over one common cycle finds it.
use Prim.Native.Nat.{ℕ, ◌≤◌, ◌<◌}
use mathlib.Core.Path.{◌≡◌, refl, ◌∙◌, ap, ap₂, subst₂}
use mathlib.Core.Bool.{Bool, true, false, cond, ◌||◌}
use mathlib.Core.List.{List}
use native.Mathlib.Omega.{arith}
use lib.Dec.{leb, ltb, eqb}
use lib.ListN.{length}
use borrow.Author.Tests.{leb-true, ltb-true, ltb-false, eqb-true}
use Rattle.model.specs.Limits.{most_processors}
use Rattle.model.specs.Curve.{Curve, AllFit, Outcome, dense, Verdict, refuses}
use Rattle.model.specs.Speeds.{speed_fits, rack_fits, unnamed, SpeedUsed, named, default}
use Rattle.model.specs.Lawful.{Lawful}
use Rattle.model.specs.Entries.{judge_takes, Finds, at_speed, exceeds}
use Rattle.model.proofs.Ranges.{and_left, and_right}
use Rattle.model.proofs.Lists.{Each, each_weaken}
use Rattle.model.proofs.Cycle.{Cycles}
use Rattle.model.proofs.Speeds.{speed_kept, smallest_once, fit_at_full, default_speed, default_is}
use Rattle.model.proofs.Verdicts.{verdict_once, fit_not_dense, fitting, fitting_first, fitting_all, found, found_is}

-- What the size of a rack keeps, and what a call that judge takes says of m, and of the speed.
pub rack_sized : (m : ℕ) → rack_fits m ≡ true → (1 ≤ m) × (m ≤ most_processors)
rack_sized m fits = (
  leb-true 1 m (and_left (leb 1 m) (leb m most_processors) fits),
  leb-true m most_processors (and_right (leb 1 m) (leb m most_processors) fits),
)

pub call_sized : (m p q : ℕ) → judge_takes m p q ≡ true → (1 ≤ m) × (m ≤ most_processors)
call_sized m p q takes = rack_sized m (and_left (rack_fits m) (unnamed p q || speed_fits p q) takes)

pub call_named : (m p q : ℕ) → judge_takes m p q ≡ true → unnamed p q ≡ false → speed_fits p q ≡ true
call_named m p q takes names = rw names at (and_right (rack_fits m) (unnamed p q || speed_fits p q) takes)

-- The speed used is one, 1 <= p <= q <= 31.
pub used_fits : {m p q : ℕ} {cs : List Curve} {a b : ℕ} → SpeedUsed m p q cs a b → speed_fits a b ≡ true
used_fits (named fits) = fits
used_fits (default a b zero speed) = speed.range

-- 0/0 is no speed
pub not_zero : (p q : ℕ) → speed_fits p q ≡ true → unnamed p q ≡ true → ⊥
not_zero p q fits zero =
    let kept = speed_kept p q fits in omega (arith, eqb-true p 0 (and_left (eqb p 0) (eqb q 0) zero))

-- A call uses one speed.
pub used_once :
    {m p q : ℕ} {cs : List Curve} {a b c d : ℕ} → SpeedUsed m p q cs a b → SpeedUsed m p q cs c d → (a ≡ c) × (b ≡ d)
used_once (named fits) (named fits') = (refl, refl)
used_once {p = p} {q = q} (named fits) (default a b zero speed) = absurd (not_zero p q fits zero)
used_once {p = p} {q = q} (default a b zero speed) (named fits) = absurd (not_zero p q fits zero)
used_once (default a b zero speed) (default c d zero' speed') = smallest_once speed speed'

-- with 0/0 no length exceeds its deadline where a speed is used
used_full : {m p q : ℕ} {cs : List Curve} {a b : ℕ} → SpeedUsed m p q cs a b → unnamed p q ≡ true → AllFit 1 1 cs
used_full {p = p} {q = q} (named fits) zero = absurd (not_zero p q fits zero)
used_full {cs = cs} (default a b z speed) zero = fit_at_full a b cs speed.range speed.enough.1

-- A call finds one thing at one speed, however the two are told.
pub finds_once :
    {X : Type 0} (told : Outcome → ℕ → ℕ → X) {m p q : ℕ} {cs : List Curve} {o o' : Outcome} {a b c d : ℕ}
    → Finds m p q cs o a b → Finds m p q cs o' c d → told o a b ≡ told o' c d
finds_once told {m} {p} {q} {cs} (at_speed o a b used v) (at_speed o' c d used' v') =
    let same = used_once used used' in
    ap₂ (told o) same.0 same.1
    ∙ ap (λ r. told r c d) (verdict_once (subst₂ (λ e f. Verdict m e f cs o) same.0 same.1 v) v')
finds_once told {cs = cs} (at_speed o a b used v) (exceeds i zero first) =
    absurd (fit_not_dense 1 1 cs i (used_full used zero) first)
finds_once told {cs = cs} (exceeds i zero first) (at_speed o a b used v) =
    absurd (fit_not_dense 1 1 cs i (used_full used zero) first)
finds_once told {m = m} {cs = cs} (exceeds i zero first) (exceeds j zero' first') =
    let same : dense i ≡ dense j = verdict_once {m = m} {p = 1} {q = 1} {cs = cs} (refuses i first) (refuses j first') in
    ap (λ o. told o 0 0) same

-- at a named speed it is the verdict
pub finds_named :
    {m p q : ℕ} {cs : List Curve} {o : Outcome} {a b : ℕ} → speed_fits p q ≡ true → Finds m p q cs o a b
    → Verdict m p q cs o
finds_named fits (at_speed o a b (named kept) v) = v
finds_named {p = p} {q = q} fits (at_speed o a b (default c d zero speed) v) = absurd (not_zero p q fits zero)
finds_named {p = p} {q = q} fits (exceeds i zero first) = absurd (not_zero p q fits zero)

-- What is found by a search over one common cycle h, and the speed: at one speed, and of a call.
unfoldable pub finding_at : ℕ → List Curve → ℕ → ℕ → ℕ → Outcome × ℕ × ℕ
finding_at m cs h a b = (found m a b cs h, a, b)

unfoldable pub finding_dense : ℕ → Outcome × ℕ × ℕ
finding_dense i = (dense i, 0, 0)

unfoldable pub finding : ℕ → ℕ → ℕ → List Curve → ℕ → Outcome × ℕ × ℕ
finding m p q cs h =
    let i = fitting 1 1 cs in
    let speed = default_speed m cs in
    let default = cond (ltb i (length cs)) (finding_dense i) (finding_at m cs h speed.0 speed.1) in
    cond (unnamed p q) default (finding_at m cs h p q)

pub finding_is :
    (m p q h : ℕ) (cs : List Curve) → judge_takes m p q ≡ true → 0 < h → Each Lawful cs → Cycles h cs
    → let f = finding m p q cs h in Finds m p q cs f.0 f.1 f.2
unfolding finding finding_at finding_dense
finding_is m p q h cs takes some_cycle laws divide =
    go (unnamed p q) refl (ltb (fitting 1 1 cs) (length cs)) refl
  where
    at : (a b : ℕ) → SpeedUsed m p q cs a b → Finds m p q cs (found m a b cs h) a b
    at a b used =
        let kept = speed_kept a b (used_fits used) in
        at_speed (found m a b cs h) a b used (found_is m a b h cs kept.0 some_cycle laws divide)

    go :
        (z : Bool) → unnamed p q ≡ z → (l : Bool) → ltb (fitting 1 1 cs) (length cs) ≡ l
        → let s = default_speed m cs in
        let f = cond z (cond l (finding_dense (fitting 1 1 cs)) (finding_at m cs h s.0 s.1)) (finding_at m cs h p q) in
        Finds m p q cs f.0 f.1 f.2
    go false e l d = at p q (named (call_named m p q takes e))
    go true e true d = exceeds (fitting 1 1 cs) e (fitting_first 1 1 cs (ltb-true (fitting 1 1 cs) (length cs) d))
    go true e false d =
        let fit = fitting_all 1 1 cs (ltb-false (fitting 1 1 cs) (length cs) d) in
        let due = each_weaken Lawful (λ c. 0 < c.deadline) cs (λ c law. law.some) laws in
        at (default_speed m cs).0 (default_speed m cs).1 (default _ _ e (default_is m cs (call_sized m p q takes).0 due fit))
