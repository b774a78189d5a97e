-- Places that stand in front of zeros, and one more of them.
use Prim.Native.Nat.{ℕ, ◌+◌, ◌-◌, ◌<◌}
use mathlib.Core.Path.{◌≡◌, sym, ◌∙◌, ap}
use mathlib.Core.List.{List, [], ◌∷◌, ◌++◌}
use native.Mathlib.Omega.{arith}
use lib.ListN.{length, take, replicate, set, length-append}
use Rattle.std.proofs.Math.Seq.{take-append_seam}
use Rattle.model.specs.Limits.{most_tasks}
use Rattle.model.proofs.Lists.{padded_more}
use Rattle.reader.specs.Places.{InFront, filled}

pub one_more :
    (places : List ℕ) (count place : ℕ) → InFront count places → count < most_tasks → InFront (count + 1) (set places count place)
one_more places count place front low =
    let more = take count places ++ place ∷ [] in
    let counted : length more ≡ count + 1 = length-append (take count places) (place ∷ []) ∙ ap (λ n. n + 1) front.counted in
    let stored : set places count place ≡ filled more =
    ap (λ l. set l count place) (sym front.zeros ∙ ap (λ n. take count places ++ replicate (most_tasks - n) 0) front.counted)
    ∙ padded_more (take count places) most_tasks count place front.counted low
    ∙ ap (λ n. more ++ replicate (most_tasks - n) 0) (sym counted) in
    let held : take (count + 1) (set places count place) ≡ more =
    ap (take (count + 1)) stored ∙ ap (λ n. take n (filled more)) (sym counted) ∙ take-append_seam more (replicate (most_tasks - length more) 0) in
    record { few = omega arith; counted = ap length held ∙ counted; zeros = ap filled held ∙ sym stored }
