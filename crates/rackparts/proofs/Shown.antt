-- There is one line for each closing.
use Prim.Native.Nat.{ℕ}
use mathlib.Core.Path.{◌≡◌, ap}
use mathlib.Core.List.{List}
use Rattle.model.specs.Entries.{Answer}
use Rattle.line.specs.Text.{line_of}
use Rattle.parts.specs.declared.Upload.{Upload}
use Rattle.parts.proofs.Promises.{closes_once}
use Rattle.rackparts.specs.Printed.{ClosingPrinted, answer}

pub closing_once :
    (u : Upload) (room : List ℕ) (m p q : ℕ) {line other : List ℕ} → ClosingPrinted u room m p q line
    → ClosingPrinted u room m p q other → line ≡ other
closing_once u room m p q (answer a j) (answer b k) =
    ap (λ (r : Answer). line_of r.number r.place r.x r.w) (closes_once u room m _ _ j k)
