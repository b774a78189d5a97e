-- What is kept of a task: stretches in places, and a line.
use Rattle.std.specs.Prelude.{ℕ, ◌+◌, ◌-◌, ◌<◌, ◌≡◌, ◌⊎◌, get_or, set}
use Rattle.places.specs.declared.Stretch.{Stretch}
use Rattle.places.specs.declared.Notes.{Notes}
use Rattle.places.specs.OneStretch.{no_stretch, grown}

-- the stretch at a place
abbrev pub stretch_in : Notes → ℕ → Stretch
stretch_in notes place = get_or notes.stretches place no_stretch

-- one more stretch, behind that in the last used place: a part of it if the slope is the same, else in the next place; the rest stays
abbrev pub Next : Notes → Stretch → Notes → Type 0
Next notes s later =
    let used = notes.used in
    let last = stretch_in notes (used - 1) in
    (((0 < used) × (last.slope ≡ s.slope) × (later.used ≡ used) × (later.stretches ≡ set notes.stretches (used - 1) (grown last s)))
    ⊎ ((0 < used → last.slope ≡ s.slope → ⊥) × (later.used ≡ used + 1) × (later.stretches ≡ set notes.stretches used s)))
    × (later.line ≡ notes.line) × (later.walks ≡ notes.walks)
