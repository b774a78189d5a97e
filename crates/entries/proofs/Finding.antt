-- From what is found of the tasks of a set to judge's answer.
use Prim.Native.Nat.{ℕ, zero, suc, ◌<◌}
use mathlib.Core.Path.{◌≡◌, sym, ◌∙◌}
use mathlib.Core.List.{List, [], ◌∷◌}
use native.Mathlib.Omega.{arith}
use lib.ListN.{length, length-map}
use Rattle.model.specs.Curve.{Curve, curve_of, FirstDense, accepted, dense, overrun, Verdict, refuses}
use Rattle.model.specs.Records.{tasks_at, reading, task_at}
use Rattle.model.specs.Entries.{Answer, refusal, answer_of, Finds, at_speed, exceeds, Judged, long_cycle, judged, tasks_of, curves_at}
use Rattle.units.specs.declared.Rack.{Rack}
use Rattle.speeds.specs.Calls.{Called}
use Rattle.verdict.specs.Stands.{Stands}
use Rattle.verdict.specs.declared.Judgement.{Judgement}
use Rattle.verdict.specs.declared.Judgement.TheVariants.{LongCycle, Accepted, Dense, Overrun}

-- judge's answer, by what is found of the tasks at the places
abbrev pub answered : List ℕ → Judgement → Answer
answered ps LongCycle = refusal 7 0
answered ps (Accepted speed) = answer_of ps accepted speed.p speed.q
answered ps (Dense i) = answer_of ps (dense i) 0 0
answered ps (Overrun x w speed) = answer_of ps (overrun x.0 w.0) speed.p speed.q

-- the first dense task is one of the list
first_in : (p q : ℕ) (cs : List Curve) (i : ℕ) → FirstDense p q cs i → i < length cs
first_in p q [] i first = absurd first
first_in p q (c ∷ cs) zero first = omega arith
first_in p q (c ∷ cs) (suc i) first = let low = first_in p q cs i first.1 in omega arith

verdict_in : {m p q : ℕ} {cs : List Curve} {i : ℕ} → Verdict m p q cs (dense i) → i < length cs
verdict_in {p = p} {q = q} {cs = cs} (refuses i first) = first_in p q cs i first

dense_in : {m p q : ℕ} {cs : List Curve} {i a b : ℕ} → Finds m p q cs (dense i) a b → i < length cs
dense_in (at_speed o a b used v) = verdict_in v
dense_in {cs = cs} (exceeds i none first) = first_in 1 1 cs i first

module _ (bytes places : List ℕ) (heard : tasks_at places ≡ reading bytes) (call : Rack) where
  -- the place of a dense task can be looked up
  pub dense_low : {i : ℕ} → Stands call (curves_at bytes places) (Dense i) → i < length places
  dense_low stands =
      let low = dense_in stands.1.1 in
      let as_many = length-map (tasks_of bytes places) curve_of ∙ length-map places (task_at bytes) in
      omega arith

  -- an answer that says what is found of the tasks is right
  pub answer_right :
      Called call → (found : Judgement) → Stands call (curves_at bytes places) found
      → Judged bytes call.m call.speed.p call.speed.q (answered places found)
  answer_right takes LongCycle long = long_cycle places takes (sym heard) long
  answer_right takes (Accepted speed) stands = judged places accepted speed.p speed.q takes (sym heard) stands.0 stands.1
  answer_right takes (Dense i) stands =
      let speed = stands.1.0 in judged places (dense i) speed.p speed.q takes (sym heard) stands.0 stands.1.1
  answer_right takes (Overrun x w speed) stands =
      judged places (overrun x.0 w.0) speed.p speed.q takes (sym heard) stands.0 stands.1
