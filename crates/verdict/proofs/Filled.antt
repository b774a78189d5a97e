-- The charts of the tasks at a list of places, filled place by place: each turn stores one, and in the end their curves are those of the
-- places.
use Prim.Native.Nat.{ℕ, ◌+◌, ◌<◌}
use mathlib.Core.Path.{◌≡◌, sym, ◌∙◌, ap, ap₂, subst}
use mathlib.Core.List.{List, [], ◌∷◌, ◌++◌}
use native.Mathlib.Omega.{arith}
use lib.ListN.{length, get_or, take, set, length-map}
use lib.Seq.{take-length}
use Rattle.std.proofs.lemmas.List.{get_or-map, map-set, take-map, take_more, take_more_set}
use Rattle.model.specs.Curve.{curve_of}
use Rattle.model.specs.Records.{task_at}
use Rattle.model.specs.Entries.{tasks_of, curves_at}
use Rattle.curve.specs.declared.chart.Chart.{Chart}
use Rattle.curve.specs.Charts.{chart_curve, curves, no_curve}
use Rattle.curve.proofs.Charts.{curve_low}

-- one more of a list that is stored front to back
pub one_more :
    {A : Type 0} (stored wanted : List A) (i : ℕ) (a d : A) → i < length stored → i < length wanted → a ≡ get_or wanted i d
    → take i stored ≡ take i wanted → take (i + 1) (set stored i a) ≡ take (i + 1) wanted
one_more stored wanted i a d room low is same =
    take_more_set stored i a room ∙ ap₂ (λ l b. l ++ b ∷ []) same is ∙ sym (take_more wanted i d low)

module _ (bytes places : List ℕ) where
  -- as many curves as places
  pub as_many : length (curves_at bytes places) ≡ length places
  as_many = length-map (tasks_of bytes places) curve_of ∙ length-map places (task_at bytes)

  -- and the curve where a place stands
  pub curve_there :
      (i : ℕ) → i < length places → get_or (curves_at bytes places) i no_curve ≡ curve_of (task_at bytes (get_or places i 0))
  curve_there i low =
      let task = task_at bytes (get_or places i 0) in
      get_or-map curve_of (tasks_of bytes places) i task no_curve (omega (arith, length-map places (task_at bytes)))
      ∙ ap curve_of (get_or-map (task_at bytes) places i 0 task low)

  -- of the charts the first i are those of the places
  abbrev pub Filled : ℕ → List Chart → Type 0
  Filled i charts = take i (curves charts) ≡ take i (curves_at bytes places)

  pub one_filled :
      (i : ℕ) (charts : List Chart) (c : Chart) → i < length charts → i < length places
      → chart_curve c ≡ curve_of (task_at bytes (get_or places i 0)) → Filled i charts → Filled (i + 1) (set charts i c)
  one_filled i charts c room low told filled =
      ap (take (i + 1)) (map-set chart_curve charts i c)
      ∙ one_more (curves charts) (curves_at bytes places) i (chart_curve c) no_curve (curve_low charts room) (omega (arith, as_many))
      (told ∙ sym (curve_there i low)) filled

  -- in the end the curves are those of the places
  pub all_filled :
      (i : ℕ) (charts : List Chart) → i ≡ length places → Filled i charts
      → curves (take (length places) charts) ≡ curves_at bytes places
  all_filled i charts all filled =
      sym (take-map chart_curve (length places) charts)
      ∙ subst (λ k. Filled k charts) all filled
      ∙ ap (λ k. take k (curves_at bytes places)) (sym as_many)
      ∙ take-length (curves_at bytes places)
