-- The marks of tasks: a task at its mark gets its next line, the nearest mark is how far all lines go together, and so far their sum is
-- a line.
use Prim.Native.Nat.{ℕ, zero, suc, ◌+◌, ◌*◌, ◌≤◌, ◌<◌, min}
use mathlib.Core.Path.{◌≡◌, sym, ◌∙◌, ap, subst}
use mathlib.Core.List.{List, [], ◌∷◌}
use mathlib.Core.Logic.{inl, inr}
use native.Mathlib.Nat.{mul-add, add-mul, mul-le-mul}
use native.Mathlib.Omega.{arith}
use lib.Dec.{eqb}
use lib.ListN.{length, get_or, set, replicate, length-set, length-replicate, get_or-replicate}
use Rattle.std.proofs.lemmas.List.Sums.{sum_by-cons}
use lib.Seq.{get_or-set_same, get_or-set_other}
use borrow.Author.Count.{below_more}
use borrow.Author.Tests.{eqb-true, eqb-false}
use Rattle.model.specs.Limits.{most_tasks, most_tick}
use Rattle.model.specs.Curve.{Curve}
use Rattle.model.specs.Lawful.{Limited}
use Rattle.model.proofs.Ranges.{decided}
use Rattle.model.proofs.Bounds.{word}
use Rattle.units.specs.declared.Speed.{Speed}
use Rattle.units.specs.Rack.{SpeedInRange, demand_at, total_at}
use Rattle.curve.specs.Charts.{no_curve}
use Rattle.demand.proofs.TableDemand.{parts}
use Rattle.slopes.specs.Lines.{Grows}
use Rattle.search.specs.declared.marks.Mark.{Mark}
use Rattle.search.specs.Marks.{Marked, mark_at, nearest, steepness}

-- The nearest mark

pub nearest_end : (marks : List Mark) (end : ℕ) → nearest marks end ≤ end
nearest_end [] end = omega arith
nearest_end (mark ∷ marks) end = omega (arith, nearest_end marks (min end mark.at))

pub nearest_mark : (marks : List Mark) (end i : ℕ) → i < length marks → nearest marks end ≤ (mark_at marks i).at
nearest_mark [] end i low = absurd (omega (arith, low))
nearest_mark (mark ∷ marks) end zero low = omega (arith, nearest_end marks (min end mark.at))
nearest_mark (mark ∷ marks) end (suc i) low = nearest_mark marks (min end mark.at) i (omega (arith, low))

-- what is before the end and before each mark is before the nearest
pub nearest_after :
    (marks : List Mark) {x : ℕ} (end : ℕ) → x < end → ((i : ℕ) → i < length marks → x < (mark_at marks i).at) → x < nearest marks end
nearest_after [] end before each = before
nearest_after (mark ∷ marks) end before each =
    nearest_after marks (min end mark.at) (omega (arith, each 0 (omega arith))) (λ i l. each (suc i) (omega arith))

-- A task at its mark

-- room for the next mark
pub mark_room :
    (speed : Speed) {c : Curve} {x slope run : ℕ} → Limited c → SpeedInRange speed → x ≤ most_tick → Grows speed c x slope run → x + run < word
mark_room speed limited range tick grows =
    let long = mul-le-mul (parts speed range).0 limited.period in omega (arith, grows.short)

-- a mark at x of no slope
abbrev pub flat : ℕ → Mark
flat x = record { at = x; slope = 0 }

-- the mark of a line that begins at x
abbrev pub mark_from : ℕ → ℕ → ℕ → Mark
mark_from x slope run = record { at = x + run; slope = slope }

module _ (cs : List Curve) (speed : Speed) where
  -- the demand of task i
  abbrev demand_of : ℕ → ℕ → ℕ
  demand_of i = demand_at speed (get_or cs i no_curve)

  module _
      {i x slope run : ℕ} (low : i < length cs) (few : length cs ≤ most_tasks) {marks : List Mark} (before : Marked cs speed x 0 marks)
      (grows : Grows speed (get_or cs i no_curve) x slope run) where
    abbrev later : List Mark
    later = set marks i (mark_from x slope run)

    here : mark_at later i ≡ mark_from x slope run
    here = get_or-set_same marks i (mark_from x slope run) _ (omega (arith, before.wide))

    other : (k : ℕ) → (k ≡ i → ⊥) → mark_at later k ≡ mark_at marks k
    other k apart = get_or-set_other marks i k (mark_from x slope run) _ apart

    -- the task that was at its mark, and the others
    pub renewed : Marked cs speed x 0 later
    renewed = record {
      wide = length-set marks i (mark_from x slope run) ∙ before.wide;
      on = λ k l.
          elim (decided (eqb k i)) [
            | inl e ↦ subst (λ n. x + 0 ≤ (mark_at later n).at) (sym (eqb-true k i e)) (rw here (omega arith))
            | inr e ↦ rw (other k (eqb-false k i e)) (before.on k l)
          ];
      line = λ k l.
          elim (decided (eqb k i)) [
            | inl e ↦
                subst
                (λ n. (j : ℕ) → x + j ≤ (mark_at later n).at → demand_of n (x + j) ≡ demand_of n x + (mark_at later n).slope * j)
                (sym (eqb-true k i e)) (rw here (λ j m. grows.on j (omega arith)))
            | inr e ↦ rw (other k (eqb-false k i e)) (before.line k l)
          ];
    }

    -- is ahead of x, as those before it are
    pub renewed_ahead : ((k : ℕ) → k < i → x < (mark_at marks k).at) → (k : ℕ) → k < i + 1 → x < (mark_at later k).at
    renewed_ahead ahead = below_more _ _ (λ k l. rw (other k (λ e. omega arith)) (ahead k l)) (rw here (omega (arith, grows.some)))

  -- x as the mark of every task says nothing yet
  pub marked_first : (x : ℕ) → length cs ≤ most_tasks → Marked cs speed x 0 (replicate most_tasks (flat x))
  marked_first x few =
      let mark : (i : ℕ) → i < length cs → mark_at (replicate most_tasks (flat x)) i ≡ flat x = λ i l.
      get_or-replicate most_tasks i (flat x) _ (omega arith) in
      record {
        wide = length-replicate {A = Mark} most_tasks (flat x);
        on = λ i l. rw (mark i l) (omega arith);
        line = λ i l. rw (mark i l) (λ j near.
            let none : j ≡ 0 = omega arith in
            let same : x + 0 ≡ x = omega arith in
            rw (none, same) (omega arith));
      }

  -- the lines go on from a later tick that is no further than any mark
  pub marked_on :
      {x ahead : ℕ} {marks : List Mark} → Marked cs speed x ahead marks → (k : ℕ)
      → ((i : ℕ) → i < length cs → x + k ≤ (mark_at marks i).at) → Marked cs speed (x + k) 0 marks
  marked_on {x} {ahead} {marks} before k near =
      record {
        wide = before.wide;
        on = λ i l. omega (arith, near i l);
        line = λ i l j low.
            let sum : x + k + j ≡ x + (k + j) = omega arith in
            omega (
              arith,
              ap (demand_of i) sum,
              before.line i l (k + j) (omega arith),
              before.line i l k (near i l),
              mul-add (mark_at marks i).slope k j,
            );
      }

-- The sum of the lines

-- it is a line as far as each of them is
pub total_along :
    (speed : Speed) (cs : List Curve) (marks : List Mark) (x j : ℕ) → length cs ≡ length marks
    → ((i : ℕ) → i < length cs
    → demand_at speed (get_or cs i no_curve) (x + j) ≡ demand_at speed (get_or cs i no_curve) x + (mark_at marks i).slope * j)
    → total_at speed cs (x + j) ≡ total_at speed cs x + steepness marks * j
total_along speed [] [] x j even lines = omega arith
total_along speed [] (mark ∷ marks) x j even lines = absurd (omega (arith, even))
total_along speed (c ∷ cs) [] x j even lines = absurd (omega (arith, even))
total_along speed (c ∷ cs) (mark ∷ marks) x j even lines =
    omega (
      arith,
      lines 0 (omega arith),
      total_along speed cs marks x j (omega (arith, even)) (λ i l. lines (suc i) (omega arith)),
      ap (λ sum. sum * j) (sum_by-cons (λ m. m.slope) mark marks),
      add-mul mark.slope (steepness marks) j,
    )
