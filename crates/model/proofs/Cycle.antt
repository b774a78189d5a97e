-- The common cycle of a list of tasks: the least number that every period divides, and that going task by task finds it.
use Prim.Native.Nat.{ℕ, ◌≤◌, ◌<◌, ◌∣◌}
use mathlib.Core.Path.{◌≡◌, refl}
use mathlib.Core.List.{List, [], ◌∷◌, map}
use native.Mathlib.Nat.{le_trans, le_of_dvd, dvd_refl, one-dvd, dvd_trans, dvd_antisymm}
use native.Mathlib.Omega.{arith}
use Rattle.model.specs.Curve.{Curve, multiple, cycle_from, common_cycle}
use Rattle.model.proofs.Lists.{Each}
use Rattle.model.proofs.Divisor.{multiple_is, multiple_positive, multiple_grows}

abbrev periods : List Curve → List ℕ
periods cs = map (λ c. c.period) cs

-- every period divides h
abbrev pub Cycles : ℕ → List Curve → Type 0
Cycles h cs = Each (λ period. period ∣ h) (periods cs)

-- every task has a period
abbrev pub Periodic : List Curve → Type 0
Periodic cs = Each (λ period. 1 ≤ period) (periods cs)

pub record IsCycle (cs : List Curve) (h : ℕ) : Type 0 where
  pub some : 0 < h
  pub cycles : Cycles h cs
  pub least : (k : ℕ) → Cycles k cs → h ∣ k

pub cycle_once : {cs : List Curve} {h k : ℕ} → IsCycle cs h → IsCycle cs k → h ≡ k
cycle_once {cs} {h} {k} p q = dvd_antisymm (p.least k q.cycles) (q.least h p.cycles)

pub cycle_least : {cs : List Curve} {h : ℕ} → IsCycle cs h → (k : ℕ) → 0 < k → Cycles k cs → h ≤ k
cycle_least p k some e = le_of_dvd some (p.least k e)

-- from any h on, task by task: h and every period divide the end, and the end divides whatever they all divide
from_start : (h : ℕ) (ps : List ℕ) → h ∣ cycle_from h ps
from_start h [] = dvd_refl h
from_start h (period ∷ rest) = dvd_trans h (multiple_is h period).left (from_start (multiple h period) rest)

from_cycles : (h : ℕ) (ps : List ℕ) → Each (λ period. period ∣ cycle_from h ps) ps
from_cycles h [] = tt
from_cycles h (period ∷ rest) =
    let next = multiple h period in
    (dvd_trans period (multiple_is h period).right (from_start next rest), from_cycles next rest)

from_least : (h : ℕ) (ps : List ℕ) (k : ℕ) → h ∣ k → Each (λ period. period ∣ k) ps → cycle_from h ps ∣ k
from_least h [] k p e = p
from_least h (period ∷ rest) k p e =
    from_least (multiple h period) rest k ((multiple_is h period).least k p e.0) e.1

-- from a positive h on, a cycle never falls: code may stop once it is over the limit
pub cycle_grows : (h : ℕ) (periods : List ℕ) → Each (λ period. 1 ≤ period) periods → 0 < h → h ≤ cycle_from h periods
cycle_grows h [] e p = omega arith
cycle_grows h (period ∷ rest) e p =
    le_trans (multiple_grows h period p e.0)
    (cycle_grows (multiple h period) rest e.1 (multiple_positive h period p e.0))

pub cycle_is : (cs : List Curve) → Periodic cs → IsCycle cs (common_cycle cs)
cycle_is cs e =
    record {
      some = cycle_grows 1 (periods cs) e (omega arith);
      cycles = from_cycles 1 (periods cs);
      least = λ k d. from_least 1 (periods cs) k (one-dvd k) d;
    }

pub no_tasks : common_cycle [] ≡ 1
no_tasks = refl
