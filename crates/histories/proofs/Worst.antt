-- Request 12: the demand of a task, and W of a set, are the worst cases over histories.
use Prim.Native.Nat.{ℕ, ◌+◌, ◌*◌, ◌≤◌, ◌<◌}
use mathlib.Core.Path.{◌≡◌}
use mathlib.Core.List.{List, [], ◌∷◌, map}
use native.Mathlib.Omega.{arith}
use Rattle.model.specs.Realization.{Task}
use Rattle.model.specs.Curve.{curve_of, demand, total}
use Rattle.model.proofs.Lists.{Each}
use Rattle.histories.specs.History.{Release}
use Rattle.histories.specs.Worst.{Spared, Largest, WorstCase, Histories, inside_all, WorstOfSet}
use Rattle.histories.proofs.AtMost.{at_most}
use Rattle.histories.proofs.Reaching.{reaches}

-- there is only one largest, so a worst case is a number
pub largest_once :
    {A : Type 0} {Allowed : A → Type 0} {f : A → ℕ} {j k : ℕ} → Largest Allowed f j → Largest Allowed f k → j ≡ k
largest_once {f = f} l m =
    let one = l.reached in
    let other = m.reached in
    omega (arith, one.2, other.2, m.at_most one.0 one.1, l.at_most other.0 other.1)

-- One task.
pub demand_worst :
    (p q : ℕ) (t : Task) → 0 < p → Spared p q t → (x : ℕ) → WorstCase p q t x (demand p q (curve_of t) x)
demand_worst p q t some spared x =
    let r = reaches p q t spared (p * t.deadline) x (omega arith) in
    record {
      at_most = λ c h. at_most p q t some spared c.releases h c.begins x;
      reached = (record { begins = p * t.deadline; releases = r.0 }, r.1, r.2);
    }

module _ (p q : ℕ) where
  pub at_most_all :
      0 < p → (ts : List Task) → Each (Spared p q) ts → (rss : List (List Release)) → Histories p ts rss → (a x : ℕ)
      → inside_all p q a x ts rss ≤ total p q (map curve_of ts) x
  at_most_all some [] spared rss h a x = omega arith
  at_most_all some (t ∷ ts) spared [] h a x = absurd h
  at_most_all some (t ∷ ts) spared (rs ∷ rest) h a x =
      omega (arith, at_most p q t some spared.0 rs h.0 a x, at_most_all some ts spared.1 rest h.1 a x)

  -- from some tick on, every interval of x ticks has histories that reach W(x) in it
  pub reaches_all :
      (ts : List Task) → Each (Spared p q) ts → (x : ℕ)
      → (from : ℕ) × ((a : ℕ) → from ≤ a
      → (rss : List (List Release)) × Histories p ts rss × (inside_all p q a x ts rss ≡ total p q (map curve_of ts) x))
  reaches_all [] spared x = (0, λ a later. ([], tt, omega arith))
  reaches_all (t ∷ ts) spared x =
      let rest = reaches_all ts spared.1 x in (
        p * t.deadline + rest.0,
        λ a later.
            let here = reaches p q t spared.0 a x (omega arith) in
            let others = rest.1 a (omega arith) in
            (here.0 ∷ others.0, (here.1, others.1), omega (arith, here.2, others.2)),
      )

  -- A set: its tasks choose their histories each for itself, so W(x) is the worst case.
  pub total_worst :
      0 < p → (ts : List Task) → Each (Spared p q) ts → (x : ℕ) → WorstOfSet p q ts x (total p q (map curve_of ts) x)
  total_worst some ts spared x =
      let all = reaches_all ts spared x in
      let r = all.1 all.0 (omega arith) in
      record {
        at_most = λ c h. at_most_all some ts spared c.releases h c.begins x;
        reached = (record { begins = all.0; releases = r.0 }, r.1, r.2);
      }
