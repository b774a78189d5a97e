-- The arm words of a graph nest, and the walk over them is the walk over the graph.
use Prim.Native.Nat.{ℕ, zero, suc, ◌+◌, ◌-◌, ◌≤◌, ◌<◌}
use mathlib.Core.Path.{◌≡◌, refl, sym, ◌∙◌, ap, ap₂}
use mathlib.Core.Bool.{Bool, true, false, not, ◌&&◌, ◌||◌, and-true}
use mathlib.Core.List.{List}
use mathlib.Core.Logic.{inl, inr}
use native.Mathlib.Omega.{arith}
use lib.Dec.{ltb}
use borrow.Author.Tests.{ltb-true, lt-ltb}
use Rattle.model.specs.Limits.{most_vertices}
use Rattle.model.specs.Range.{any, most}
use Rattle.model.specs.Graph.{Shape, size, starts, arms, in_arm}
use Rattle.model.proofs.Ranges.{and_left, and_right, and_both, is_false, decided}
use Rattle.model.proofs.Arms.{Drawn}
use Rattle.model.proofs.ArmFacts.{arm_below, two_arms_lem, keeps_choice, arms_of}
use Rattle.model.proofs.Nesting.{nesting}
use Rattle.model.proofs.Walk.{Alike, without, walk_from, walk, walk_none, walk_outside, walk_plain, walk_start}
use Rattle.vertices.specs.Members.{has}
use Rattle.shape.specs.Choices.{ArmTable}
use Rattle.shape.proofs.Choices.{table_arm}
use Rattle.curve.specs.Sheets.{Closed, Laid}
use Rattle.curve.specs.Tables.{arm_of, outside, word_walk, arm_sum}
use Rattle.curve.proofs.WordWalk.{in_neither, walk_here, walk_past}

-- the word of all the vertices
abbrev pub Whole : Shape → ℕ → Type 0
Whole t word = (u : ℕ) → has word u ≡ ltb u (size t)

-- nothing where the set holds none of the vertices left
word_none :
    (words : List (List ℕ)) (f : ℕ → ℕ) (left : ℕ) (set : ℕ → Bool) → ((u : ℕ) → most_vertices ≤ u + left → set u ≡ false)
    → word_walk words f left set ≡ 0
unfolding word_walk
word_none words f zero set none = refl
word_none words f (suc left) set none =
    rw (none (most_vertices - suc left) (omega arith)) (word_none words f left set (λ u l. none u (omega arith)))

module _ {t : Shape} (d : Drawn t) (words : List (List ℕ)) (table : ArmTable t words) where
  -- a word that holds a vertex is an arm of a start
  module _ (v i u : ℕ) (held : has (arm_of words v i) u ≡ true) where
    held_start : starts t v ≡ true
    held_start = and_left (starts t v) (in_arm t v i u) (sym (table v i u) ∙ held)

    held_arm : in_arm t v i u ≡ true
    held_arm = and_right (starts t v) (in_arm t v i u) (sym (table v i u) ∙ held)

  -- arms nest, so their words do
  pub laid_of : Laid words
  laid_of =
      let a = arms_of t d in
      let above : (v i u : ℕ) → has (arm_of words v i) u ≡ true → v < u = λ v i u h. a.arm_above v i u (held_arm v i u h) in
      record {
        above = above;
        nested = λ v i u j w hu hw.
            let start = held_start v i u hu in
            let deep = nesting t a v u i j w start (held_start u j w hw) (above v i u hu) (held_arm u j w hw) in
            table v i w ∙ and_both (starts t v) (in_arm t v i w) start (sym deep ∙ held_arm v i u hu);
      }

  pub closed_of : (word : ℕ) → Whole t word → Closed words word
  closed_of word whole u j w hu hw = whole w ∙ lt-ltb w (size t) (arm_below t u j w (held_arm u j w hw))

  -- G3 at each start
  both_arms : (s : ℕ) → starts t s ≡ true → arms t s ≡ 2
  both_arms s start = two_arms_lem t s (keeps_choice t d s start).0

  -- at a start the words leave out the same vertices as the graph, elsewhere none

  outside_start :
      (v : ℕ) (set same : ℕ → Bool) → starts t v ≡ true → Alike t set same → Alike t (outside words v set) (without t v same)
  outside_start v set same start alike u l =
      let arm = table_arm t words table v start in
      in_neither (set u) (has (arm_of words v 0) u) (has (arm_of words v 1) u)
      ∙ ap₂ (λ a b. a && not b) (alike u l)
      (ap₂ ◌||◌ (arm 0 u) (arm 1 u) ∙ sym (ap (λ k. any k (λ i. in_arm t v i u)) (both_arms v start)))

  plain_arm : (v : ℕ) → starts t v ≡ false → (i u : ℕ) → has (arm_of words v i) u ≡ false
  plain_arm v plain i u = table v i u ∙ ap (λ b. b && in_arm t v i u) plain

  outside_plain : (v : ℕ) (set : ℕ → Bool) → starts t v ≡ false → (u : ℕ) → outside words v set u ≡ set u
  outside_plain v set plain u =
      ap₂ (λ a b. set u && not a && not b) (plain_arm v plain 0 u) (plain_arm v plain 1 u)
      ∙ and-true (set u && true) ∙ and-true (set u)

  -- The two walks stand at the same vertex. Behind the graph's last one the words' walk goes on, but meets none of the set.
  module _ (small : size t ≤ most_vertices) (f g : ℕ → ℕ) (weighs : (v : ℕ) → v < size t → f v ≡ g v) where
    same_walk :
        (more left : ℕ) → more + size t ≡ most_vertices + left → left ≤ size t → (set same : ℕ → Bool) → Alike t set same
        → ((u : ℕ) → set u ≡ true → u < size t) → word_walk words f more set ≡ walk_from t g left same
    same_walk more zero e l set same alike low =
        word_none words f more set (λ u h. is_false (set u) (λ m. omega (arith, low u m))) ∙ sym (walk_none t g same)
    same_walk zero (suc left) e l set same alike low = absurd (omega arith)
    same_walk (suc more) (suc left) e l set same alike low =
        let v = size t - suc left in
        let at : v + suc left ≡ size t = omega arith in
        let here : v + suc more ≡ most_vertices = omega arith in
        let below : v < size t = omega arith in
        let onward = same_walk more left (omega arith) (omega arith) in
        elim (decided (set v)) [
          | inr out ↦
              walk_past words f v more here set out
              ∙ onward set same alike low
              ∙ sym (walk_outside t g v left at same (sym (alike v below) ∙ out))
          | inl inside ↦
              let also = sym (alike v below) ∙ inside in
              let a = walk_here words f v more here set inside in
              let weight = weighs v below in
              let rest : (u : ℕ) → outside words v set u ≡ true → u < size t = λ u m.
              low u (and_left (set u) _ (and_left (set u && not (has (arm_of words v 0) u)) _ m)) in
              elim (decided (starts t v)) [
                | inr plain ↦
                    let b = walk_plain t g v left at same also plain in
                    let none : (i : ℕ) → word_walk words f more (has (arm_of words v i)) ≡ 0 = λ i.
                    word_none words f more (has (arm_of words v i)) (λ u _. plain_arm v plain i u) in
                    let others = onward (outside words v set) same (λ u b. outside_plain v set plain u ∙ alike u b) rest in
                    omega (arith, none 0, none 1)
                | inl start ↦
                    let b = walk_start t g v left at same also start in
                    let two = ap (λ k. most k (λ i. walk_from t g left (in_arm t v i))) (both_arms v start) in
                    let arm : (i : ℕ) → word_walk words f more (has (arm_of words v i)) ≡ walk_from t g left (in_arm t v i) = λ i.
                    onward (has (arm_of words v i)) (in_arm t v i) (λ u _. table_arm t words table v start i u)
                    (λ u m. arm_below t v i u (held_arm v i u m)) in
                    let others = onward (outside words v set) (without t v same) (outside_start v set same start alike) rest in
                    omega (arith, arm 0, arm 1)
              ]
        ]

    pub walk_of : (word : ℕ) → Whole t word → arm_sum words f word ≡ walk t g
    unfolding arm_sum walk
    walk_of word whole =
        same_walk most_vertices (size t) (omega arith) (omega arith) (has word) (λ v. true) (λ u l. whole u ∙ lt-ltb u (size t) l)
        (λ u m. ltb-true u (size t) (sym (whole u) ∙ m))
