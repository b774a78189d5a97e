-- The cases that document 01 marks *, on the real bytes of each set, in one table under one claim: all that are about the four entries.
-- What the program prints of X is a row of the table in `reply`, which has these rows too.
use Prim.Native.Nat.{ℕ}
use mathlib.Core.Path.{◌≡◌, refl, sym, subst}
use mathlib.Core.List.{List, [], ◌∷◌}
use Rattle.model.specs.Graph.{edge, arms, arm_first, bare, in_arm, goes_on, G1, pairs, G2, G3, G4, closes, G5, shut, G6, keeps_rules}
use Rattle.model.specs.Realization.{options, ways, present, endings, remaining, work, span, rdem, volume, len}
use Rattle.model.specs.Curve.{curve_of, part, demand, overruns, divisor, multiple}
use Rattle.model.specs.Layers.{widths, layers}
use Rattle.model.specs.Records.{fields_at, task_record, role_and_mate, vertex_record, edge_record, rises, keeps_table, behind, shape_at, task_at, read_task, reading}
use Rattle.model.specs.Entries.{Answer, refusal, Judged, Figures, figures_for, figures, Demanded, demanded_for, demanded, Layered, layered_for, layered}
use Rattle.model.proofs.Lists.{Each, each_weaken}
use Rattle.model.proofs.Speeds.{part_of, look, looks, largest, default_speed}
use Rattle.model.proofs.Verdicts.{found}
use Rattle.model.proofs.Finding.{finding, finding_at, finding_dense}
use Rattle.model.proofs.Judge.{judge, judge_is}
use Rattle.model.proofs.Sets.{set_X, set_Y, set_one_job, set_one_job_dense, set_two_jobs_deadline_1, set_two_jobs_deadline_2}

-- A row: a call of one of the four entries and its answer.
pub data Case : Type 0 where
  figures_of : (bytes : List ℕ) (task : ℕ) → Figures → Case
  demand_of : (bytes : List ℕ) (task p q x : ℕ) → Demanded → Case
  layers_of : (bytes : List ℕ) (task p q : ℕ) (table : List ℕ) → Layered → Case
  judge_of : (bytes : List ℕ) (m p q : ℕ) → Answer → Case

-- The claim: the answer satisfies the statement of its entry.
abbrev pub Holds : Case → Type 0
Holds (figures_of bytes task a) = a ≡ figures bytes task
Holds (demand_of bytes task p q x a) = a ≡ demanded bytes task p q x
Holds (layers_of bytes task p q table a) = a ≡ layered bytes task p q table
Holds (judge_of bytes m p q a) = Judged bytes m p q a

-- the same for what computes, which is enough: one common cycle decides
abbrev Computes : Case → Type 0
Computes (figures_of bytes task a) = a ≡ figures bytes task
Computes (demand_of bytes task p q x a) = a ≡ demanded bytes task p q x
Computes (layers_of bytes task p q table a) = a ≡ layered bytes task p q table
Computes (judge_of bytes m p q a) = a ≡ judge bytes m p q

enough : (c : Case) → Computes c → Holds c
enough (figures_of bytes task a) h = h
enough (demand_of bytes task p q x a) h = h
enough (layers_of bytes task p q table a) h = h
enough (judge_of bytes m p q a) h = subst (λ (b : Answer). Judged bytes m p q b) (sym h) (judge_is bytes m p q)

-- answers of a call that is not refused

work_is : ℕ → Demanded
work_is w = record { number = 0; place = 0; work = w }

accepted_at : ℕ → ℕ → Answer
accepted_at p q = record { number = 0; place = 0; x = 0; w = 0; p = p; q = q }

abbrev pub overrun_at : ℕ → ℕ → ℕ → ℕ → Answer
overrun_at p q x w = record { number = 9; place = 0; x = x; w = w; p = p; q = q }

-- pairs at the front of a table of eight words, and the words behind them
six_words : List ℕ → Layered
six_words words = record { number = 0; place = 0; pairs = 3; table = words }

blank : List ℕ
blank = 100 ∷ 101 ∷ 102 ∷ 103 ∷ 104 ∷ 105 ∷ 106 ∷ 107 ∷ []

pub table : List Case
table =
    figures_of set_X 0 (record { number = 0; place = 0; length = 11; volume = 25 })
    ∷ layers_of set_X 0 1 1 blank (six_words (1 ∷ 1 ∷ 3 ∷ 4 ∷ 2 ∷ 6 ∷ 106 ∷ 107 ∷ []))
    ∷ demand_of set_X 0 1 1 65 (work_is 77)
    ∷ demand_of set_X 0 1 1 70 (work_is 87)
    ∷ demand_of set_X 0 1 1 72 (work_is 93)
    ∷ demand_of set_X 0 1 1 78 (work_is 100)
    ∷ judge_of set_X 2 0 0 (overrun_at 11 15 1 2)
    ∷ judge_of set_X 2 1 1 (overrun_at 1 1 9 10)
    ∷ demand_of set_X 0 1 1 8 (work_is 8)
    ∷ layers_of set_X 0 3 4 blank (six_words (1 ∷ 4 ∷ 3 ∷ 16 ∷ 2 ∷ 24 ∷ 106 ∷ 107 ∷ []))
    ∷ judge_of set_X 2 3 4 (overrun_at 3 4 7 12)
    ∷ judge_of set_X 4 3 4 (overrun_at 3 4 41 96)
    ∷ judge_of set_X 5 3 4 (accepted_at 3 4)
    ∷ layers_of set_Y 0 1 1 blank (six_words (3 ∷ 1 ∷ 2 ∷ 1 ∷ 1 ∷ 1 ∷ 106 ∷ 107 ∷ []))
    ∷ judge_of set_one_job 1 1 1 (accepted_at 1 1)
    ∷ judge_of set_one_job_dense 1 1 1 (refusal 8 0)
    ∷ judge_of set_two_jobs_deadline_1 1 1 1 (overrun_at 1 1 1 2)
    ∷ judge_of set_two_jobs_deadline_2 1 1 1 (accepted_at 1 1)
    ∷ []

computed : Each Computes table
unfolding table set_X set_Y set_one_job set_one_job_dense set_two_jobs_deadline_1 set_two_jobs_deadline_2 work_is accepted_at six_words blank judge finding finding_at finding_dense found default_speed largest looks look part_of edge arms arm_first bare in_arm goes_on G1 pairs G2 G3 G4 closes G5 shut G6 keeps_rules options ways present endings remaining work span rdem volume len curve_of part demand overruns divisor multiple widths layers fields_at task_record role_and_mate vertex_record edge_record rises keeps_table behind shape_at task_at read_task reading figures_for figures demanded_for demanded layered_for layered
computed =
    (refl, (refl, (refl, (refl, (refl, (refl, (refl, (refl, (refl, (refl, (refl, (refl, (refl, (refl, (refl, (refl, (refl, (refl, tt))))))))))))))))))

pub cases : Each Holds table
cases = each_weaken Computes Holds table enough computed

-- the row that the program's line is about: X, m=2, 1/1
pub judged_X : Judged set_X 2 1 1 (overrun_at 1 1 9 10)
unfolding table
judged_X = cases.1.1.1.1.1.1.1.0
