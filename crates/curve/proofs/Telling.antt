-- What figures tell of the tasks of a list, and what a curve has of its figures alone.
use Prim.Native.Nat.{ℕ, ◌<◌}
use mathlib.Core.Path.{◌≡◌, sym, ◌∙◌, ap}
use mathlib.Core.List.{List, map}
use native.Mathlib.Omega.{arith}
use lib.ListN.{length, get_or, length-map}
use Rattle.std.proofs.lemmas.List.{get_or-map}
use Rattle.model.specs.Curve.{Curve}
use Rattle.model.specs.Lawful.{Limited}
use Rattle.model.proofs.Lists.{Each, each_at}
use Rattle.curve.specs.declared.chart.Figures.{Figures}
use Rattle.curve.specs.Charts.{no_curve}
use Rattle.curve.specs.Figured.{outline, Tells, InRange, Fills, AllFill}

-- Tasks

module _ {A : Type 0} (told : A → Curve) (tasks : List A) where
  -- as many as tasks
  pub told_count : length (map told tasks) ≡ length tasks
  told_count = length-map tasks told

  pub told_low : {i : ℕ} → i < length tasks → i < length (map told tasks)
  told_low low = omega (arith, told_count, low)

  module _ {i : ℕ} {task : A} (low : i < length tasks) (is : task ≡ get_or tasks i task) where
    -- the curve where a task stands
    pub told_at : get_or (map told tasks) i no_curve ≡ told task
    told_at = get_or-map told tasks i task no_curve low ∙ ap told (sym is)

    -- its figures are those of the curve there
    pub tells_at : {f : Figures} → Tells f (told task) → Tells f (get_or (map told tasks) i no_curve)
    tells_at tells = rw told_at tells

-- Figures alone

-- a curve of which no work is told
abbrev pub bare : Curve → Curve
bare c = record { deadline = c.deadline; period = c.period; length = c.length; volume = c.volume; remains = λ q x. 0 }

module _ {f : Figures} {c : Curve} (tells : Tells f c) where
  pub outline_bare : outline f ≡ bare c
  outline_bare = rw (tells.deadline, tells.period, tells.length, tells.volume)

  pub outline_range : InRange c → InRange (outline f)
  outline_range range =
      record {
        some = rw tells.deadline range.some;
        constrained = rw (tells.deadline, tells.period) range.constrained;
        period = rw tells.period range.period;
        length = rw tells.length range.length;
        volume = rw tells.volume range.volume;
      }

bare_fills : {c told : Curve} → Fills c told → bare c ≡ bare told
bare_fills fills = rw (fills.deadline, fills.period, fills.length, fills.volume)

module _ {cs told : List Curve} (all : AllFill cs told) where
  pub fill_limited : Each Limited cs
  fill_limited = each_at Limited cs no_curve (λ i low. (all.each i low).limited)

  -- they are the same in all that figures tell
  pub bare_at : (i : ℕ) → i < length cs → bare (get_or cs i no_curve) ≡ bare (get_or told i no_curve)
  bare_at i low = bare_fills (all.each i low)
