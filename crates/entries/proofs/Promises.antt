-- What the entries' statements promise of the code's answers: each answer is the only one, judge accepts exactly the right sets, an
-- overrun that it names is the least, and relief never hurts.
use Prim.Native.Nat.{ℕ, ◌≤◌}
use mathlib.Core.Path.{◌≡◌, ap}
use mathlib.Core.Bool.{true}
use mathlib.Core.List.{List}
use mathlib.Core.Logic.{◌⊎◌, ◌↔◌}
use Rattle.model.specs.Limits.{most_cycle}
use Rattle.model.specs.Curve.{common_cycle}
use Rattle.model.specs.Records.{tasks_at, reading}
use Rattle.model.specs.Entries.{Answer, Judged, judge_takes, curves_at, Figures, figures, Demanded, demanded, Layered, layered}
use Rattle.model.specs.Named.{MayShare, Dense, Overrun}
use Rattle.model.specs.Relief.{Relief}
use Rattle.model.proofs.Answers.{judged_once, answer_once, accepted_when, refused_otherwise, dense_first, overrun_least, stays_accepted, comes_no_sooner}
use Rattle.answers.specs.Given.{figures_give, demand_gives, layers_give}
use Rattle.answers.specs.declared.TaskFigures.{TaskFigures}
use Rattle.answers.specs.declared.TaskDemand.{TaskDemand}
use Rattle.answers.specs.declared.TaskLayers.{TaskLayers}
use Rattle.entries.specs.Given.{judge_gives}
use Rattle.entries.specs.declared.SetVerdict.{SetVerdict}

-- Two answers that satisfy one statement are equal: the values given make up the struct again.

pub gives_once : (r s : SetVerdict) → judge_gives r ≡ judge_gives s → r ≡ s
unfolding judge_gives
gives_once r s =
    let back : Answer → SetVerdict =
    λ a. record { number = a.number; place = a.place; x = record { 0 = a.x }; w = record { 0 = a.w }; p = a.p; q = a.q } in
    ap back

module _ (bytes : List ℕ) (m p q : ℕ) (r s : SetVerdict) where
  pub judge_once : Judged bytes m p q (judge_gives r) → Judged bytes m p q (judge_gives s) → r ≡ s
  judge_once j k = gives_once r s (judged_once bytes m p q j k)

module _ (bytes : List ℕ) (i : ℕ) (r s : TaskFigures) where
  pub figures_once : figures_give r ≡ figures bytes i → figures_give s ≡ figures bytes i → r ≡ s
  unfolding figures_give
  figures_once e f =
      let back : Figures → TaskFigures =
      λ a. record { number = a.number; place = a.place; length = record { 0 = a.length }; volume = record { 0 = a.volume } } in
      ap back (answer_once e f)

module _ (bytes : List ℕ) (i p q x : ℕ) (r s : TaskDemand) where
  pub demand_once : demand_gives r ≡ demanded bytes i p q x → demand_gives s ≡ demanded bytes i p q x → r ≡ s
  unfolding demand_gives
  demand_once e f =
      let back : Demanded → TaskDemand = λ a. record { number = a.number; place = a.place; work = record { 0 = a.work } } in
      ap back (answer_once e f)

module _ (bytes : List ℕ) (i p q : ℕ) (lent : List ℕ) (r s : TaskLayers) (table other : List ℕ) where
  pub layers_once :
      layers_give r table ≡ layered bytes i p q lent → layers_give s other ≡ layered bytes i p q lent
      → (r ≡ s) × (table ≡ other)
  unfolding layers_give
  layers_once e f =
      let back : Layered → TaskLayers = λ a. record { number = a.number; place = a.place; pairs = a.pairs } in
      let same = answer_once e f in
      (ap back same, ap (λ (a : Layered). a.table) same)

-- Demand 2: for a call in range and a readable set with a common cycle within the limit, judge's number is 0 exactly when at the speed
-- used every task fits and no x at all overruns.
pub accepted_exactly_when :
    (bytes ps : List ℕ) (m p q : ℕ) (r : SetVerdict) → judge_takes m p q ≡ true → reading bytes ≡ tasks_at ps
    → common_cycle (curves_at bytes ps) ≤ most_cycle → Judged bytes m p q (judge_gives r)
    → (r.number ≡ 0) ↔ MayShare m p q (curves_at bytes ps)
unfolding judge_gives
accepted_exactly_when bytes ps m p q r = accepted_when bytes ps m p q

-- Otherwise its number is 8 or 9.
pub accepted_dense_or_overrun :
    (bytes ps : List ℕ) (m p q : ℕ) (r : SetVerdict) → judge_takes m p q ≡ true → reading bytes ≡ tasks_at ps
    → common_cycle (curves_at bytes ps) ≤ most_cycle → Judged bytes m p q (judge_gives r)
    → (r.number ≡ 0) ⊎ ((r.number ≡ 8) ⊎ (r.number ≡ 9))
unfolding judge_gives
accepted_dense_or_overrun bytes ps m p q r = refused_otherwise bytes ps m p q

-- 8 names the record of the first task that does not fit, or with 0/0 the first whose length exceeds its deadline.
pub dense_named :
    (bytes : List ℕ) (m p q : ℕ) (r : SetVerdict) → Judged bytes m p q (judge_gives r) → r.number ≡ 8
    → Dense bytes p q (judge_gives r)
unfolding judge_gives
dense_named bytes m p q r = dense_first bytes m p q

-- An overrun that judge names is one at the speed that it names too, it is the least, its work is W, and it lies within one cycle.
pub overrun_named :
    (bytes : List ℕ) (m p q : ℕ) (r : SetVerdict) → Judged bytes m p q (judge_gives r) → r.number ≡ 9
    → Overrun bytes m p q (judge_gives r)
unfolding judge_gives
overrun_named bytes m p q r = overrun_least bytes m p q

-- Demand 3, over two calls of judge at one p and q: relief never hurts.
module _ (old new : List ℕ) (m n p q : ℕ) (relief : Relief old new m n p q) (r s : SetVerdict) where
  pub relief_accepted :
      Judged old m p q (judge_gives r) → Judged new n p q (judge_gives s) → r.number ≡ 0 → s.number ≡ 0
  unfolding judge_gives
  relief_accepted = stays_accepted old new m n p q relief

  pub relief_no_sooner :
      Judged old m p q (judge_gives r) → Judged new n p q (judge_gives s) → r.number ≡ 9
      → (s.number ≡ 0) ⊎ ((s.number ≡ 9) × (r.x.0 ≤ s.x.0))
  unfolding judge_gives
  relief_no_sooner = comes_no_sooner old new m n p q relief
