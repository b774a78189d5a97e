-- Searches on a rack.
use Rattle.std.specs.Prelude.{◌≡◌}
use Rattle.slopes.specs.declared.lines.Search.{Search}

-- of the same tasks on the same rack
abbrev pub Same : Search → Search → Type 0
Same before after = after.load ≡ before.load
