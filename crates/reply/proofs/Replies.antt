-- What the program prints, from what the code holds; and that there is one line for each input.
use Prim.Native.Nat.{ℕ, ◌+◌, ◌-◌, ◌≤◌}
use mathlib.Core.Path.{◌≡◌, refl, sym, ap}
use mathlib.Core.List.{List}
use native.Mathlib.Omega.{arith}
use lib.ListN.{length, get_or, take, drop, length-drop}
use lib.Seq.{take_all}
use Rattle.model.specs.Limits.{most_bytes}
use Rattle.model.specs.Entries.{Answer, Judged}
use Rattle.units.specs.declared.Speed.{Speed}
use Rattle.model.proofs.Answers.{judged_once}
use Rattle.line.specs.Text.{line_of}
use Rattle.reply.specs.Printed.{named_p, named_q, Printed, long_set, no_call, answer}

-- the set behind m, p and q was judged, at the speed that the program names
pub judged_line :
    {input : List ℕ} {m p q : ℕ} {speed : Speed} {a : Answer} → 3 ≤ length input → length input ≤ 3 + most_bytes
    → m ≡ get_or input 0 0 → p ≡ get_or input 1 0 → q ≡ get_or input 2 0
    → (speed.p ≡ named_p m p q) × (speed.q ≡ named_q m p q)
    → Judged (take (length input - 3) (drop 3 input)) m speed.p speed.q a
    → Printed input (line_of a.number a.place a.x a.w)
judged_line {input} {a = a} call fits is_m is_p is_q named found =
    let whole = take_all (length input - 3) (drop 3 input) (omega (arith, length-drop 3 input)) in
    answer a call fits (rw (sym is_m, sym is_p, sym is_q, sym whole) (rw (sym named.0, sym named.1) found))

-- two lines that may be printed for one input are equal
pub printed_once : {input a b : List ℕ} → Printed input a → Printed input b → a ≡ b
printed_once (long_set h) (long_set k) = refl
printed_once (long_set h) (no_call k) = absurd (omega arith)
printed_once (long_set h) (answer b call fits j) = absurd (omega arith)
printed_once (no_call h) (long_set k) = absurd (omega arith)
printed_once (no_call h) (no_call k) = refl
printed_once (no_call h) (answer b call fits j) = absurd (omega arith)
printed_once (answer a call fits j) (long_set k) = absurd (omega arith)
printed_once (answer a call fits j) (no_call k) = absurd (omega arith)
printed_once (answer a call fits j) (answer b again fits' k) =
    ap (λ (r : Answer). line_of r.number r.place r.x r.w) (judged_once _ _ _ _ j k)
