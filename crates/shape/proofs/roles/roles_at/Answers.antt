use Prim.Native.Nat.{ℕ, ◌≤◌, ◌<◌}
use mathlib.Core.Path.{◌≡◌, sym, ◌∙◌, ap}
use mathlib.Core.Bool.{◌&&◌, ◌||◌}
use native.Mathlib.Omega.{arith}
use lib.Dec.{eqb}
use Rattle.model.specs.Graph.{size, role, starts, ends}
use Rattle.model.specs.Records.{fields_at, shape_at}
use Rattle.records.proofs.Tabled.{sized, role_at}
use Rattle.vertices.specs.Members.{has}
use Rattle.shape.proofs.RoleWords.{known_none, known_more, known_all}
use Rattle.shape.proofs.roles.roles_at.Goals.{In-loop-v}
use Rattle.shape.proofs.roles.roles_at.Goals as goal

-- the vertex is one of the task's
below : (c : In-loop-v) → c.loop-v.v < (fields_at c.args.task.set.now c.args.task.place).b
below c = omega (arith, ap (λ f. f.b) c.head-n.ensures)

pub loop-v-init : goal.loop-v-init
loop-v-init c =
    let t = shape_at c.args.task.set.now c.args.task.place in (known_none (starts t), known_none (ends t))

pub insert-here-requires : goal.insert-here-requires
insert-here-requires c = omega (arith, below (goal.at.insert-here-requires c).In-loop-v, (sized c.args.task.tabled.task).high)

pub loop-v-preserved : goal.loop-v-preserved
loop-v-preserved c =
    let loop = c.loop-v in
    let t = shape_at c.args.task.set.now c.args.task.place in
    let own = c.insert-here.result in
    let told : role t loop.v ≡ c.vertex-role.result.a =
    role_at c.args.task.set.now c.args.task.place loop.v (below (goal.at.loop-v-preserved c).In-loop-v) ∙ sym (ap (λ f. f.a) c.vertex-role.ensures) in
    let is : (r u : ℕ) → (eqb c.vertex-role.result.a r && has own u) ≡ (eqb (role t loop.v) r && has own u) =
    λ r u. ap (λ k. eqb k r && has own u) (sym told) in (
      known_more (starts t) loop.v loop.starts loop.invariant.0 own c.union-starts.result c.insert-here.ensures
          (λ u. c.union-starts.ensures u ∙ ap (λ b. has loop.starts u || b) (c.only.ensures u ∙ is 1 u)),
      known_more (ends t) loop.v loop.ends loop.invariant.1 own c.union-ends.result c.insert-here.ensures
          (λ u. c.union-ends.ensures u ∙ ap (λ b. has loop.ends u || b) (c.only-in-loop-v.ensures u ∙ is 2 u)),
    )

pub returns : goal.returns
returns c =
    let loop = c.loop-v in
    let t = shape_at c.args.task.set.now c.args.task.place in
    let passed : size t ≤ loop.v = omega (arith, (sized c.args.task.tabled.task).vertices, ap (λ f. f.b) c.head-n.ensures) in
    record { starts = known_all t 1 loop.v loop.starts (omega arith) passed loop.invariant.0; ends = known_all t 2 loop.v loop.ends (omega arith) passed loop.invariant.1 }
