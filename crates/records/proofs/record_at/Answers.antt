-- `records::record_at` meets its contract: each field is read at its own bytes.
use Prim.Native.Nat.{ℕ, suc, ◌+◌, ◌*◌}
use mathlib.Core.Path.{◌≡◌, ap}
use mathlib.Core.List.{List}
use native.Mathlib.Omega.{arith}
use lib.ListN.{get_or}
use Rattle.model.specs.Records.{little, fields_at}
use Rattle.records.proofs.record_at.Goals as goal

-- fields that are those at the bytes of record i make up record i
decoded :
    (bytes : List ℕ) (i : ℕ) {kind a b c d e : ℕ}
    → kind ≡ little bytes (16 * i) 1
    → a ≡ little bytes (16 * i + 1) 1
    → b ≡ little bytes (16 * i + 2) 2
    → c ≡ little bytes (16 * i + 4) 4
    → d ≡ little bytes (16 * i + 8) 4
    → e ≡ little bytes (16 * i + 12) 4
    → record { kind = kind; a = a; b = b; c = c; d = d; e = e } ≡ fields_at bytes i
unfolding fields_at
decoded bytes i p q r s t u = cc

pub returns : goal.returns
returns c =
    let bytes = c.args.set.now in
    let at = 16 * c.args.i in
    let next : at + 3 ≡ suc (at + 2) = omega arith in
    decoded bytes c.args.i
    (omega arith)
    (omega arith)
    (omega (arith, ap (λ k. get_or bytes k 0) next))
    c.four.ensures.0
    c.four-2.ensures.0
    c.four-3.ensures.0
