-- A stretch by itself.
use Rattle.std.specs.Prelude.{ℕ, ◌+◌, Bool, ◌&&◌, ltb, leb}
use Rattle.places.specs.declared.Stretch.{Stretch}

-- no tick, and nothing due
abbrev pub no_stretch : Stretch
no_stretch = record { from = record { 0 = 0 }; value = record { 0 = 0 }; slope = 0; run = record { 0 = 0 } }

-- whether a stretch begins before a tick and reaches it
abbrev pub reaches : ℕ → ℕ → ℕ → Bool
reaches from run tick = ltb from tick && leb tick (from + run)

-- the tick at which a stretch ends
abbrev pub end_of : Stretch → ℕ
end_of s = s.from.0 + s.run.0

-- a stretch grown by the run of another
abbrev pub grown : Stretch → Stretch → Stretch
grown last s = record { from = last.from; value = last.value; slope = last.slope; run = record { 0 = last.run.0 + s.run.0 } }
