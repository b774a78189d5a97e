-- What a verdict says of histories.
use Prim.Native.Nat.{ℕ, ◌*◌, ◌≤◌, ◌<◌}
use mathlib.Core.Path.{◌≡◌, sym, ◌∙◌, subst}
use mathlib.Core.List.{List, [], ◌∷◌, map}
use native.Mathlib.Nat.{le_trans, mul-le-mul_left}
use native.Mathlib.Omega.{arith}
use borrow.Author.Tests.{ltb-true}
use Rattle.model.specs.Realization.{Task}
use Rattle.model.specs.Curve.{curve_of, total, bound, overruns, AllFit, accepted, overrun, Verdict, accepts, names}
use Rattle.model.proofs.Lists.{Each}
use Rattle.model.proofs.Verdicts.{within}
use Rattle.histories.specs.History.{Release}
use Rattle.histories.specs.Worst.{Constrained, Spared, Histories, inside_all}
use Rattle.histories.proofs.Worst.{at_most_all, reaches_all}

spared_all : (p q : ℕ) (ts : List Task) → Each Constrained ts → AllFit p q (map curve_of ts) → Each (Spared p q) ts
spared_all p q [] constrained fit = tt
spared_all p q (t ∷ ts) constrained fit =
    (record { constrained = constrained.0; fit = fit.0 }, spared_all p q ts constrained.1 fit.1)

-- However the tasks of an accepted set are released, those releases that count run inside no more than the bound.
pub accepted_runs :
    (m p q : ℕ) (ts : List Task) → 0 < p → Each Constrained ts → Verdict m p q (map curve_of ts) accepted
    → (rss : List (List Release)) → Histories p ts rss → (a x : ℕ) → p * inside_all p q a x ts rss ≤ bound m p q * x
accepted_runs m p q ts some constrained (accepts fit fine) rss h a x =
    le_trans (mul-le-mul_left p (at_most_all p q some ts (spared_all p q ts constrained fit) rss h a x))
    (within m p q (map curve_of ts) x (fine x))

-- The overrun of a refused set happens: in some interval of the named length the releases that count run the named work, which is more
-- than the bound.
pub overrun_runs :
    (m p q x w : ℕ) (ts : List Task) → Each Constrained ts → Verdict m p q (map curve_of ts) (overrun x w)
    → (a : ℕ) × (rss : List (List Release)) × Histories p ts rss × (inside_all p q a x ts rss ≡ w) × (bound m p q * x < p * w)
unfolding overruns
overrun_runs m p q _ _ ts constrained (names x w fit over before is) =
    let all = reaches_all p q ts (spared_all p q ts constrained fit) x in
    let r = all.1 all.0 (omega arith) in (
      all.0,
      r.0,
      r.1,
      r.2 ∙ sym is,
      subst (λ k. bound m p q * x < p * k) (sym is) (ltb-true (bound m p q * x) (p * total p q (map curve_of ts) x) over),
    )
