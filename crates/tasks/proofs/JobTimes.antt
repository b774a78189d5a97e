-- The job times of a task, of which each turn of a loop reads one, and its latest ends.
use Prim.Native.Nat.{ℕ, ◌+◌, ◌-◌, ◌<◌}
use mathlib.Core.Path.{◌≡◌, sym, ◌∙◌, ap}
use mathlib.Core.List.{List, [], ◌∷◌, ◌++◌}
use native.Mathlib.Numerals.{add-one}
use lib.ListN.{get_or, set, replicate}
use Rattle.model.specs.Limits.{most_vertices}
use Rattle.model.specs.Range.{listed}
use Rattle.model.specs.Graph.{size}
use Rattle.model.specs.Realization.{finish}
use Rattle.model.specs.Records.{Fields, fields_at, shape_at, task_at}
use Rattle.model.proofs.Ranges.{length_listed}
use Rattle.model.proofs.Lists.{padded, padded_more}
use Rattle.model.proofs.Table.{size_at}
use Rattle.vertices.specs.Members.{has}
use Rattle.graph.specs.Words.{Into}
use Rattle.tasks.specs.Told.{TimesOf, EndsOf}

module _ (bytes : List ℕ) (place : ℕ) where
  -- the job times of the vertices below v
  abbrev times_below : ℕ → List ℕ
  times_below v = listed v (λ u. (fields_at bytes (place + 1 + u)).c)

  -- of 64 job times those below v are read, and the others are 0
  abbrev pub Timed : ℕ → List ℕ → Type 0
  Timed v times = times ≡ times_below v ++ replicate (most_vertices - v) 0

  pub one_timed :
      (v : ℕ) (times : List ℕ) {vertex : Fields} → v < most_vertices → vertex ≡ fields_at bytes (place + 1 + v) → Timed v times
      → Timed (v + 1) (set times v vertex.c)
  one_timed v times {vertex} low h timed =
      let zeros : List ℕ = replicate (most_vertices - (v + 1)) 0 in
      ap (λ l. set l v vertex.c) timed
      ∙ padded_more (times_below v) most_vertices v vertex.c (length_listed v _) low
      ∙ ap (λ r. (times_below v ++ r.c ∷ []) ++ zeros) h
      ∙ ap (λ k. times_below k ++ zeros) (sym (add-one v))

  pub all_timed : (v : ℕ) (times : List ℕ) → v ≡ (fields_at bytes place).b → Timed v times → TimesOf (task_at bytes place) times
  unfolding task_at
  all_timed v times all timed u =
      ap (λ l. get_or l u 0) timed ∙ padded (times_below v) (most_vertices - v) u ∙ ap (λ k. get_or (times_below k) u 0) all

  -- words that hold the edges, and the job times, tell the ends
  pub all_ended :
      (n : ℕ) (into times ends : List ℕ) → n ≡ (fields_at bytes place).b → Into (shape_at bytes place) into
      → TimesOf (task_at bytes place) times
      → ((v : ℕ) → get_or ends v 0 ≡ get_or (finish (λ u w. has (get_or into w 0) u) (λ u. get_or times u 0) n) v 0)
      → EndsOf (task_at bytes place) ends
  unfolding task_at
  all_ended n into times ends all is_into is_times ended v =
      let counted : n ≡ size (shape_at bytes place) = all ∙ sym (size_at bytes place) in
      ended v ∙ (λ i. get_or (finish (λ u w. is_into u w i) (λ u. is_times u i) (counted i)) v 0)
