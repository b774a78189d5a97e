-- `line::buffer::Line::extend_from_slice` meets its contract. The loop's invariant: the first bytes stand behind the line as it was.
use Prim.Native.Nat.{◌+◌}
use mathlib.Core.Path.{◌≡◌}
use mathlib.Core.List.{◌++◌}
use lib.ListN.{take}
use Rattle.line.specs.Text.{text}
use Rattle.line.proofs.buffer.Line.extend_from_slice.Given as goal

abbrev pub invariant-loop-byte : goal.invariant-loop-byte
invariant-loop-byte l =
    (text l.self ≡ text l.initial.self ++ take l.byte-index l.bytes) × (l.self.len ≡ l.initial.self.len + l.byte-index)
