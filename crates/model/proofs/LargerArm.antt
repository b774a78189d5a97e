-- The larger of the arms: for fixed weights, the largest over the ways of the sum over present vertices is the walk's value.
use Prim.Native.Nat.{ℕ, zero, suc, ◌+◌, ◌-◌, ◌≤◌, ◌<◌}
use mathlib.Core.Path.{◌≡◌, refl, sym, ◌∙◌, ap, subst}
use mathlib.Core.Bool.{Bool, true, false, not, ◌&&◌}
use mathlib.Core.Logic.{inl, inr}
use native.Mathlib.Nat.{le_antisymm, zero-add, eq-or-lt_of_le}
use native.Mathlib.Omega.{arith}
use borrow.Author.Tests.{not-true}
use Rattle.model.specs.Range.{only, sum}
use Rattle.model.specs.Graph.{Shape, size, starts, arms, in_arm}
use Rattle.model.specs.Realization.{Way, taken, options, ways, present, largest}
use Rattle.model.proofs.Ranges.{any_ext, and_left, and_right, and_both, is_false, not_both, decided, same_test, only_true, only_false, sum_ext, sum_add, most_at_lem, most_found}
use Rattle.model.proofs.Ways.{IsWay, most_of_ways, ways_within, way_by, way_by_is, way_by_taken}
use Rattle.model.proofs.Arms.{Arms, Nested}
use Rattle.model.proofs.Presence.{present_taken, taken_present, options_start, options_plain}
use Rattle.model.proofs.Walk.{Pick, by_largest, in_arms, without, without_of, without_set, without_free, along, walk_by, walk_from, walk, walk_by_none, walk_by_outside, walk_by_plain, walk_by_start, walk_by_le}

-- the sum of f over the n numbers from k on
abbrev sum_from : ℕ → ℕ → (ℕ → ℕ) → ℕ
sum_from k n f = sum n (λ j. f (k + j))

-- a sum's first term taken off
sum_first : (n : ℕ) (f : ℕ → ℕ) → sum (suc n) f ≡ f 0 + sum n (λ j. f (suc j))
sum_first zero f = omega arith
sum_first (suc n) f = let r = sum_first n f in omega arith

sum_from_first : (k n : ℕ) (f : ℕ → ℕ) → sum_from k (suc n) f ≡ f k + sum_from (suc k) n f
sum_from_first k n f =
    let a = sum_first n (λ j. f (k + j)) in
    let b = ap f (let e : k + 0 ≡ k = omega arith in e) in
    let c = sum_ext n (λ j. f (k + suc j)) (λ j. f (suc k + j)) (λ j l. ap f (omega arith)) in
    omega arith

-- a sum where p holds is the sum where b holds too, and the sum where it does not
only_parts : (a b : Bool) (x : ℕ) → only a x ≡ only (a && b) x + only (a && not b) x
only_parts true true x = omega arith
only_parts true false x = omega arith
only_parts false b x = omega arith

sum_from_parts :
    (k n : ℕ) (p b : ℕ → Bool) (f : ℕ → ℕ)
    → sum_from k n (λ v. only (p v) (f v))
    ≡ sum_from k n (λ v. only (p v && b v) (f v)) + sum_from k n (λ v. only (p v && not (b v)) (f v))
sum_from_parts k n p b f =
    sum_ext n (λ j. only (p (k + j)) (f (k + j))) _ (λ j l. only_parts (p (k + j)) (b (k + j)) (f (k + j)))
    ∙ sum_add n (λ j. only (p (k + j) && b (k + j)) (f (k + j))) (λ j. only (p (k + j) && not (b (k + j))) (f (k + j)))

-- A way through the choices that start at k or later

-- v is in no arm that is not taken, of a start from k on
abbrev Stays : Shape → Way → ℕ → ℕ → Type 0
Stays t w k v = (s i : ℕ) → k ≤ s → starts t s ≡ true → in_arm t s i v ≡ true → i ≡ taken w s

-- v is in the arm that is taken at k
abbrev taken_arm : Shape → Way → ℕ → ℕ → Bool
taken_arm t w k v = in_arm t k (taken w k) v

-- a set that no choice from k on is half in: it holds a start exactly if it holds the vertices of its arms
abbrev Closed : Shape → ℕ → (ℕ → Bool) → Type 0
Closed t k set = (s i v : ℕ) → k ≤ s → starts t s ≡ true → in_arm t s i v ≡ true → set s ≡ set v

-- the test p says of each vertex from k on whether it is in the set and stays
record Tells (t : Shape) (w : Way) (k : ℕ) (set p : ℕ → Bool) : Type 0 where
  in_set : (v : ℕ) → k ≤ v → v < size t → p v ≡ true → set v ≡ true
  stays : (v : ℕ) → k ≤ v → v < size t → p v ≡ true → Stays t w k v
  whole : (v : ℕ) → k ≤ v → v < size t → set v ≡ true → Stays t w k v → p v ≡ true

-- one start more, k: v stays if its arms that hold v are taken
stays_at :
    (t : Shape) (w : Way) (k v : ℕ) → Stays t w (suc k) v
    → ((i : ℕ) → starts t k ≡ true → in_arm t k i v ≡ true → i ≡ taken w k) → Stays t w k v
stays_at t w k v later here s i l start has =
    elim (eq-or-lt_of_le l) [
      | inl e ↦
          subst (λ r. i ≡ taken w r) e
          (here i (subst (λ r. starts t r ≡ true) (sym e) start) (subst (λ r. in_arm t r i v ≡ true) (sym e) has))
      | inr m ↦ later s i m start has
    ]

-- no later arm holds k
stays_self : (t : Shape) → Arms t → (w : Way) (k : ℕ) → Stays t w k k
stays_self t a w k s i l start has = absurd (omega (arith, a.arm_above s i k has))

-- the test at k itself is the set's
tells_self : (t : Shape) → Arms t → (w : Way) (k : ℕ) (set p : ℕ → Bool) → k < size t → Tells t w k set p → p k ≡ set k
tells_self t a w k set p l tells =
    same_test (p k) (set k) (tells.in_set k (omega arith) l)
    (λ h. tells.whole k (omega arith) l h (stays_self t a w k))

-- from k to the vertices after it: another set and another test, that say the same of the vertices that k lets stay
tells_on :
    (t : Shape) (w : Way) (k : ℕ) (set p next q : ℕ → Bool) → Tells t w k set p
    → ((v : ℕ) → k < v → v < size t → q v ≡ true → (p v ≡ true) × (next v ≡ true))
    → ((v : ℕ) → k < v → v < size t → next v ≡ true
    → (set v ≡ true) × ((i : ℕ) → starts t k ≡ true → in_arm t k i v ≡ true → i ≡ taken w k) × (p v ≡ true → q v ≡ true))
    → Tells t w (suc k) next q
tells_on t w k set p next q tells down up =
    record {
      in_set = λ v l b h. (down v l b h).1;
      stays = λ v l b h s i m. tells.stays v (omega arith) b (down v l b h).0 s i (omega arith);
      whole = λ v l b h later.
          let u = up v l b h in
          u.2 (tells.whole v (omega arith) b u.0 (stays_at t w k v later u.1));
    }

-- from vertex k, which the test has decided, to those after it
module _ (t : Shape) (w : Way) (k : ℕ) (set p : ℕ → Bool) (tells : Tells t w k set p) where
  -- where k lets all of the set stay, the same set and test go on
  tells_same : ((i v : ℕ) → starts t k ≡ true → in_arm t k i v ≡ true → set v ≡ true → ⊥) → Tells t w (suc k) set p
  tells_same clear =
      tells_on t w k set p set p tells (λ v l b h. (h, tells.in_set v (omega arith) b h))
      (λ v l b h. (h, λ i start has. absurd (clear i v start has h), λ x. x))

  -- at a start in the set, the arm that is taken goes on by itself
  tells_arm :
      Arms t → Closed t k set → set k ≡ true → starts t k ≡ true
      → Tells t w (suc k) (taken_arm t w k) (λ v. p v && taken_arm t w k v)
  tells_arm a closed inside start =
      tells_on t w k set p (taken_arm t w k) (λ v. p v && taken_arm t w k v) tells
      (λ v l b h. (and_left (p v) (taken_arm t w k v) h, and_right (p v) (taken_arm t w k v) h))
      (λ v l b h. (
        sym (closed k (taken w k) v (omega arith) start h) ∙ inside,
        λ i _ has. a.apart k i (taken w k) v start has h,
        λ x. and_both (p v) (taken_arm t w k v) x h,
      ))

  -- and so do the vertices in none of its arms
  tells_rest :
      Arms t → starts t k ≡ true → Tells t w (suc k) (without t k set) (λ v. p v && not (taken_arm t w k v))
  tells_rest a start =
      tells_on t w k set p (without t k set) (λ v. p v && not (taken_arm t w k v)) tells
      (λ v l b h.
      let x = and_left (p v) (not (taken_arm t w k v)) h in
      let out = not-true (taken_arm t w k v) (and_right (p v) (not (taken_arm t w k v)) h) in
      let free : (i : ℕ) → in_arm t k i v ≡ true → ⊥ = λ i has.
      let alone = tells.stays v (omega arith) b x k i (omega arith) start has in
      not_both (taken_arm t w k v) (subst (λ j. in_arm t k j v ≡ true) alone has) out
      in
      (x, without_of t k set v (tells.in_set v (omega arith) b x) free))
      (λ v l b h.
      let free : (i : ℕ) → in_arm t k i v ≡ true → ⊥ = λ i has.
      without_free t k set v h i (a.arm_counted k i v has) has
      in
      let out = is_false (taken_arm t w k v) (free (taken w k)) in
      (without_set t k set v h, λ i _ has. absurd (free i has), λ x. and_both (p v) (not (taken_arm t w k v)) x (ap not out)))

-- Sets that stay closed after the start k

closed_on : (t : Shape) (k : ℕ) (set : ℕ → Bool) → Closed t k set → Closed t (suc k) set
closed_on t k set closed s i v l = closed s i v (omega arith)

closed_rest :
    (t : Shape) → Nested t → (k : ℕ) (set : ℕ → Bool) → starts t k ≡ true → Closed t k set
    → Closed t (suc k) (without t k set)
closed_rest t nested k set start closed s i v l other has =
    ap (λ b. b && not (in_arms t k s)) (closed s i v (omega arith) other has)
    ∙ ap (λ b. set v && not b)
    (any_ext (arms t k) (λ j. in_arm t k j s) (λ j. in_arm t k j v) (λ j _. nested k s j i v start other l has))

-- the arm that the way takes
abbrev by_way : Way → Pick
by_way w v g = g (taken w v)

-- the walk that follows a way is the sum over the vertices of the set that stay
follow_sum :
    (t : Shape) → Arms t → Nested t → (f : ℕ → ℕ) (w : Way) (left k : ℕ) → k + left ≡ size t
    → (set p : ℕ → Bool) → Closed t k set → Tells t w k set p
    → walk_by t (by_way w) f left set ≡ sum_from k left (λ v. only (p v) (f v))
follow_sum t a nested f w zero k at set p closed tells = walk_by_none t (by_way w) f set
follow_sum t a nested f w (suc left) k at set p closed tells =
    let self = tells_self t a w k set p (omega arith) tells in
    let first = sum_from_first k left (λ v. only (p v) (f v)) in
    let onward = follow_sum t a nested f w left (suc k) (omega arith) in
    elim (decided (set k)) [
      | inr out ↦
          let step = walk_by_outside t (by_way w) f k left at set out in
          let none = only_false (p k) (f k) (self ∙ out) in
          let rest =
          onward set p (closed_on t k set closed)
          (tells_same t w k set p tells (λ i v start has x.
          not_both (set v) x (sym (closed k i v (omega arith) start has) ∙ out)))
          in
          omega arith
      | inl has ↦
          let own = only_true (p k) (f k) (self ∙ has) in
          elim (decided (starts t k)) [
            | inr plain ↦
                let step = walk_by_plain t (by_way w) f k left at set has plain in
                let rest =
                onward set p (closed_on t k set closed)
                (tells_same t w k set p tells (λ i v start _ _. not_both (starts t k) start plain))
                in
                omega arith
            | inl start ↦
                let step = walk_by_start t (by_way w) f k left at set has start in
                let arm =
                onward (taken_arm t w k) (λ v. p v && taken_arm t w k v)
                (λ s i v l other held. nested k s (taken w k) i v start other l held)
                (tells_arm t w k set p tells a closed has start)
                in
                let rest =
                onward (without t k set) (λ v. p v && not (taken_arm t w k v))
                (closed_rest t nested k set start closed) (tells_rest t w k set p tells a start)
                in
                let parts = sum_from_parts (suc k) left p (taken_arm t w k) f in
                omega arith
          ]
    ]

-- presence is the test for all of the graph, from vertex 0 on
present_tells : (t : Shape) → Arms t → (w : Way) → Tells t w 0 (λ v. true) (present t w)
present_tells t a w =
    record {
      in_set = λ v _ _ h. refl;
      stays = λ v _ _ h s i _. present_taken t a w v s i h;
      whole = λ v _ _ _ h. taken_present t w v (λ s i. h s i (omega arith));
    }

-- the walk that follows a way is the sum over the present vertices
follow_present :
    (t : Shape) → Arms t → Nested t → (f : ℕ → ℕ) (w : Way)
    → walk_by t (by_way w) f (size t) (λ v. true) ≡ sum (size t) (λ v. only (present t w v) (f v))
follow_present t a nested f w =
    follow_sum t a nested f w (size t) 0 (omega arith) (λ v. true) (present t w) (λ s i v _ _ _. refl) (present_tells t a w)
    ∙ sum_ext (size t) _ (λ v. only (present t w v) (f v)) (λ v _. ap (λ u. only (present t w u) (f u)) (zero-add v))

-- Ways against the walk

-- an option that, at a start, gives the largest of the walks in its arms
abbrev Best : Shape → (ℕ → ℕ) → ℕ → Type 0
Best t f v =
    let inner = along t (by_largest t) f (size t - suc v) v in
    (i : ℕ) × (i < options t v) × (starts t v ≡ true → by_largest t v inner ≡ inner i)

best : (t : Shape) → Arms t → (f : ℕ → ℕ) (v : ℕ) → Best t f v
best t a f v =
    elim (decided (starts t v)) [
      | inl start ↦
          let found = most_found (arms t v) (along t (by_largest t) f (size t - suc v) v) (omega (arith, a.two_arms v start)) in
          (found.0, (let l = found.1 in omega (arith, options_start t v start)), λ _. found.2)
      | inr plain ↦ (0, omega (arith, options_plain t v plain), λ start. absurd (not_both (starts t v) start plain))
    ]

best_way : (t : Shape) → Arms t → (ℕ → ℕ) → Way
best_way t a f = way_by t (λ v. (best t a f v).0)

-- no way's arms give more than the largest
follow_le :
    (t : Shape) (f : ℕ → ℕ) (w : Way) → IsWay t w
    → walk_by t (by_way w) f (size t) (λ v. true) ≤ walk t f
unfolding walk walk_from
follow_le t f w is =
    walk_by_le t (by_way w) (by_largest t) f f (λ v _. omega arith)
    (λ v left at start g more.
    let l = is.chosen v (omega arith) in
    let m = most_at_lem (arms t v) g (taken w v) (omega (arith, options_start t v start)) in
    omega (arith, more (taken w v)))
    (size t) (omega arith) (λ v. true) (λ v. true) (λ v _. refl)

-- at a start the best way takes an arm that gives the largest
best_taken :
    (t : Shape) (a : Arms t) (f : ℕ → ℕ) (v left : ℕ) → v + suc left ≡ size t → starts t v ≡ true
    → by_largest t v (along t (by_largest t) f left v) ≡ along t (by_largest t) f left v (taken (best_way t a f) v)
unfolding best_way
best_taken t a f v left at start =
    let after : size t - suc v ≡ left = omega arith in
    let chosen = way_by_taken t (λ u. (best t a f u).0) v (omega arith) in
    subst (λ n. by_largest t v (along t (by_largest t) f n v) ≡ along t (by_largest t) f n v (taken (best_way t a f) v)) after
    ((best t a f v).2 start ∙ ap (along t (by_largest t) f (size t - suc v) v) (sym chosen))

-- the best choices give as much
best_le :
    (t : Shape) (a : Arms t) (f : ℕ → ℕ)
    → walk t f ≤ walk_by t (by_way (best_way t a f)) f (size t) (λ v. true)
unfolding walk walk_from best_way
best_le t a f =
    walk_by_le t (by_largest t) (by_way (best_way t a f)) f f (λ v _. omega arith)
    (λ v left at start g more.
    omega (arith, best_taken t a f v left at start, more (taken (best_way t a f) v)))
    (size t) (omega arith) (λ v. true) (λ v. true) (λ v _. refl)

-- each way's sum is what following it gives, and the best choices follow the walk
pub larger_arms :
    (t : Shape) → Arms t → Nested t → (f : ℕ → ℕ)
    → largest (ways t) (λ w. sum (size t) (λ v. only (present t w v) (f v))) ≡ walk t f
unfolding best_way
larger_arms t a nested f =
    le_antisymm
    (ways_within t total (walk t f) (λ w is. omega (arith, follow_present t a nested f w, follow_le t f w is)))
    (let l = best_le t a f in
    let e = follow_present t a nested f (best_way t a f) in
    let m = most_of_ways t total (best_way t a f) (way_by_is t (λ v. (best t a f v).0) (λ v _. (best t a f v).1)) in
    omega arith)
  where
    total : Way → ℕ
    total w = sum (size t) (λ v. only (present t w v) (f v))
