-- The worst case of a task and of a set over intervals of x ticks.
use Rattle.std.specs.Prelude.{ℕ, ◌+◌, ◌≤◌, ◌≡◌, true, List, [], ◌∷◌}
use Rattle.model.specs.Realization.{Task}
use Rattle.model.specs.Curve.{curve_of, fits}
use Rattle.histories.specs.History.{Release, History, inside}

-- "deadline 1..period", as every task of a readable set has it
pub record Constrained (t : Task) : Type 0 where
  pub some : 1 ≤ t.deadline
  pub within : t.deadline ≤ t.period

-- "any task that number 8 spares"
pub record Spared (p q : ℕ) (t : Task) : Type 0 where
  pub constrained : Constrained t
  pub fit : fits p q (curve_of t) ≡ true

-- "is at most .., and some such history reaches it": k is the largest f over all that is allowed
pub record Largest {A : Type 0} (Allowed : A → Type 0) (f : A → ℕ) (k : ℕ) : Type 0 where
  pub at_most : (a : A) → Allowed a → f a ≤ k
  pub reached : (a : A) × Allowed a × (f a ≡ k)

-- where an interval begins, and the releases: of one task, or of each task of a set
pub record Course (A : Type 0) : Type 0 where
  pub begins : ℕ
  pub releases : A

-- k is the most that the releases that count run inside an interval of x ticks, wherever it begins and whatever the history
abbrev pub WorstCase : ℕ → ℕ → Task → ℕ → ℕ → Type 0
WorstCase p q t x k =
    Largest (λ (c : Course (List Release)). History p t c.releases) (λ c. inside p q t c.begins x c.releases) k

-- a history for each task of a set, whatever the others do
abbrev pub Histories : ℕ → List Task → List (List Release) → Type 0
Histories p [] [] = Unit {0}
Histories p [] (rs ∷ rest) = ⊥
Histories p (t ∷ ts) [] = ⊥
Histories p (t ∷ ts) (rs ∷ rest) = History p t rs × Histories p ts rest

-- what those of them that count run inside one interval
abbrev pub inside_all : ℕ → ℕ → ℕ → ℕ → List Task → List (List Release) → ℕ
inside_all p q a x [] rest = 0
inside_all p q a x (t ∷ ts) [] = 0
inside_all p q a x (t ∷ ts) (rs ∷ rest) = inside p q t a x rs + inside_all p q a x ts rest

-- the same of all tasks of a set together, inside one interval
abbrev pub WorstOfSet : ℕ → ℕ → List Task → ℕ → ℕ → Type 0
WorstOfSet p q ts x k =
    Largest (λ (c : Course (List (List Release))). Histories p ts c.releases)
    (λ c. inside_all p q c.begins x ts c.releases) k
