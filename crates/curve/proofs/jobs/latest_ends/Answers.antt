use mathlib.Core.Path.{◌≡◌, refl, ◌∙◌, ap}
use native.Mathlib.Omega.{arith}
use lib.Dec.{lit≤}
use lib.ListN.{get_or}
use Rattle.model.specs.Limits.{most_vertices}
use Rattle.model.specs.Realization.{finish}
use Rattle.curve.proofs.LatestEnds.{end_at, end_fits, one_ended}
use Rattle.curve.proofs.jobs.latest_ends.Invariants.{waits, time}
use Rattle.curve.proofs.jobs.latest_ends.Goals as goal

pub loop-v-init : goal.loop-v-init
loop-v-init c = refl

pub overflow_add-ends : goal.overflow_add-ends
overflow_add-ends c =
    let loop = c.loop-v in
    record {
      fits =
          end_fits most_vertices (waits c.args.into.now) (time c.args.times.now) loop.v c.last_end.result
          loop.ends (omega arith) loop.invariant c.last_end.ensures (lit≤ tt) c.requires.by_index;
    }

pub loop-v-preserved : goal.loop-v-preserved
loop-v-preserved c =
    let loop = c.loop-v in
    let args = c.args in
    one_ended most_vertices (waits args.into.now) (time args.times.now) loop.v c.last_end.result loop.ends
    (omega arith) loop.invariant c.last_end.ensures

pub returns : goal.returns
returns c =
    let args = c.args in
    let loop = c.loop-v in
    let all : loop.v ≡ args.n = omega arith in
    let ends = finish (waits args.into.now) (time args.times.now) in
    λ u. end_at most_vertices (waits args.into.now) (time args.times.now) loop.v loop.ends loop.invariant u
    ∙ ap (λ k. get_or (ends k) u 0) all
