use Rattle.std.proofs.Common.{◌≡◌, ℕ, ◌+◌, ◌≤◌, List, ◌++◌, arith, rules, length, take, sym, ap, ◌∙◌, subst, drop_at, length-take-le}
use Rattle.std.proofs.lemmas.Slice.{take-put_mid_below}
use Rattle.std.specs.Io.KnownBytes.{Consumes}
use Rattle.std.proofs.KnownBytes.{Consumes-trans}
use borrow.Rule.Slice.PartMut.{put_mid, post_of}
use lib.ListN.{drop}
use lib.Seq.{take-add, take-append-le}
use Rattle.input.proofs.read_input.Goals as goal

-- a part that was read behind the first bytes stands in the room behind them
behind :
    (from k n : ℕ) (room part : List ℕ) → from ≤ length room → n ≤ length part
    → take from room ++ take n part ≡ take (from + n) (put_mid from k room part)
behind from k n room part within fits =
    let whole = put_mid from k room part in
    let rest : drop from whole ≡ part ++ post_of from k room =
    drop_at (take from room) (part ++ post_of from k room) from (length-take-le from room within) in
    sym
    (take-add from n whole
    ∙ ap (λ l. l ++ take n (drop from whole)) (take-put_mid_below _ _ _ _ _ (omega arith) within)
    ∙ ap (λ l. take from room ++ l) (ap (take n) rest ∙ take-append-le n part (post_of from k room) fits))

pub loop-count-preserved : goal.loop-count-preserved
loop-count-preserved g c =
    let at = c.loop-count in
    let kept = at.invariant in (
      search rules,
      search rules,
      subst (Consumes _ _) (behind at.count _ c.in-Ok.more at.room c.read_part.new.room kept.1 c.in-Ok.ensures.prefix.0)
          (Consumes-trans _ _ _ _ _ kept.2 c.in-Ok.ensures.bytes),
    )

pub returns-in-Err-clause-bytes : goal.returns-in-Err-clause-bytes
returns-in-Err-clause-bytes g c =
    let at = c.loop-count in
    let kept = at.invariant in
    subst (Consumes _ _) (behind at.count _ c.in-Err.e.count at.room c.read_part.new.room kept.1 c.in-Err.ensures.prefix.0)
    (Consumes-trans _ _ _ _ _ kept.2 c.in-Err.ensures.bytes)
