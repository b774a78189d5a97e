-- Between two whole ticks a realization's remaining work is a straight line, so the largest over realizations lies on or below the
-- chord between its values at the two ticks.
use Prim.Native.Nat.{ℕ, zero, suc, ◌+◌, ◌-◌, ◌*◌, ◌≤◌, ◌<◌, min}
use mathlib.Core.Path.{◌≡◌, refl, sym, ◌∙◌, ap}
use mathlib.Core.Bool.{Bool, true, false}
use mathlib.Core.List.{List}
use mathlib.Core.Logic.{inl, inr}
use native.Mathlib.Nat.{le_of_lt, mul-add, add-mul, mul_assoc, mul_comm, mul-suc, mul-sub, mul-le-mul_left, min-eq_left, min-eq_right}
use native.Mathlib.Omega.{arith}
use lib.Dec.{leb}
use lib.ListN.{get_or}
use borrow.Author.Tests.{leb-true, leb-false}
use Rattle.model.specs.Range.{sum, only}
use Rattle.model.specs.Graph.{size}
use Rattle.model.specs.Realization.{Task, time, Way, ways, present, waits_for, finish, endings, remaining, rdem, largest}
use Rattle.model.proofs.Ranges.{decided, only_scale, sum_ext, sum_scale, most_ext, most_scale}
use Rattle.model.proofs.Ways.{largest_at, largest_le, largest_ext, largest_scale}
use Rattle.model.proofs.Finish.{finish_scale}
use Rattle.histories.specs.History.{begun}
use Rattle.histories.proofs.Running.{rest, remaining_is}

-- f lies on or below its chord between each two neighbouring multiples of n: j parts after the first of them, i before the second
abbrev pub Chord : ℕ → (ℕ → ℕ) → Type 0
Chord n f = (x i j : ℕ) → i + j ≡ n → n * f (n * x + j) ≤ i * f (n * x) + j * f (n * x + n)

-- a value that stays
pub level_chord :
    (n i j : ℕ) → i + j ≡ n → {first between last : ℕ} (v : ℕ) → first ≡ v → between ≡ v → last ≡ v
    → n * between ≤ i * first + j * last
level_chord n i j whole v a b c = rw (a, b, c) (omega (arith, ap (λ k. k * v) whole, add-mul i j v))

-- one that falls by one in each part
falling_chord :
    (n i j : ℕ) → i + j ≡ n → {first between last : ℕ} (v : ℕ) → first ≡ v + n → between ≡ v + i → last ≡ v
    → n * between ≤ i * first + j * last
falling_chord n i j whole v a b c =
    rw (a, b, c)
    (omega (arith, ap (λ k. k * v) whole, add-mul i j v, mul-add n v i, mul-add i v n, mul_comm n i))

-- What is left of a job: all of it, a part, nothing.

rest_all : (s c z : ℕ) → z ≤ s → rest s c z ≡ c
rest_all s c z before = omega arith

rest_some : (s c z v : ℕ) → s ≤ z → v + z ≡ s + c → rest s c z ≡ v
rest_some s c z v begun is = omega arith

rest_none : (s c z : ℕ) → s + c ≤ z → rest s c z ≡ 0
rest_none s c z after = omega arith

-- n times as much, of all three
scale_min : (n a b : ℕ) → min (n * a) (n * b) ≡ n * min a b
scale_min n a b =
    elim (decided (leb a b)) [
      | inl h ↦ let l = leb-true a b h in rw (min-eq_left l) (min-eq_left (mul-le-mul_left n l))
      | inr h ↦ let l = le_of_lt (leb-false a b h) in rw (min-eq_right l) (min-eq_right (mul-le-mul_left n l))
    ]

rest_scale : (n s c z : ℕ) → rest (n * s) (n * c) (n * z) ≡ n * rest s c z
rest_scale n s c z =
    ap (λ e. min (n * c) (e - n * z)) (sym (mul-add n s c))
    ∙ ap (λ e. min (n * c) e) (sym (mul-sub n (s + c) z))
    ∙ scale_min n c (s + c - z)

-- a job that starts and ends on multiples of n: over by the first, not begun by the second, or running all the while
rest_chord : (n s c : ℕ) → Chord n (rest (n * s) (n * c))
rest_chord n s c x i j whole =
    elim (decided (leb (s + c) x)) [
      | inl over ↦
          let after = mul-le-mul_left n (leb-true (s + c) x over) in
          let none : (z : ℕ) → n * x ≤ z → rest S C z ≡ 0 = λ z from. rest_none S C z (omega (arith, ended)) in
          level_chord n i j whole 0 (none _ (omega arith)) (none _ (omega arith)) (none _ (omega arith))
      | inr on ↦
          let more = mul-le-mul_left n (leb-false (s + c) x on) in
          elim (decided (leb (suc x) s)) [
            | inl waits ↦
                let before = mul-le-mul_left n (leb-true (suc x) s waits) in
                let all : (z : ℕ) → z ≤ n * x + n → rest S C z ≡ C = λ z to. rest_all S C z (omega (arith, next)) in
                level_chord n i j whole C (all _ (omega arith)) (all _ (omega arith)) (all _ (omega arith))
            | inr begun ↦
                let after = mul-le-mul_left n (leb-false (suc x) s begun) in
                let v = S + C - (n * x + n) in
                let some : (z k : ℕ) → n * x ≤ z → k + z ≡ v + n + n * x → rest S C z ≡ k =
                λ z k from to. rest_some S C z k (omega arith) (omega (arith, next, ended)) in
                falling_chord n i j whole v (some _ _ (omega arith) (omega arith)) (some _ _ (omega arith) (omega arith))
                (some _ _ (omega arith) (omega arith))
          ]
    ]
  where
    S : ℕ
    S = n * s

    C : ℕ
    C = n * c

    ended : n * (s + c) ≡ S + C
    ended = mul-add n s c

    next : n * suc x ≡ n * x + n
    next = mul-suc n x

-- Sums and the largest

only_chord : (n : ℕ) (b : Bool) (f : ℕ → ℕ) → Chord n f → Chord n (λ z. only b (f z))
only_chord n true f h = h
only_chord n false f h = λ x i j whole. level_chord n i j whole 0 refl refl refl

pub add_chord : (n : ℕ) (f g : ℕ → ℕ) → Chord n f → Chord n g → Chord n (λ z. f z + g z)
add_chord n f g h k x i j whole =
    let at : (k z : ℕ) → k * (f z + g z) ≡ k * f z + k * g z = λ k z. mul-add k (f z) (g z) in
    omega (arith, h x i j whole, k x i j whole, at n (n * x + j), at i (n * x), at j (n * x + n))

sum_chord : (n k : ℕ) (f : ℕ → ℕ → ℕ) → ((v : ℕ) → v < k → Chord n (f v)) → Chord n (λ z. sum k (λ v. f v z))
sum_chord n zero f h = λ x i j whole. level_chord n i j whole 0 refl refl refl
sum_chord n (suc k) f h =
    add_chord n (λ z. sum k (λ v. f v z)) (f k) (sum_chord n k f (λ v l. h v (omega arith))) (h k (omega arith))

largest_chord :
    (n : ℕ) (ws : List Way) (f : Way → ℕ → ℕ) → ((w : Way) → Chord n (f w)) → Chord n (λ z. largest ws (λ w. f w z))
largest_chord n ws f h x i j whole =
    rw (sym (largest_scale ws n (λ w. f w (n * x + j))))
    (largest_le ws (λ w. n * f w (n * x + j)) _ (λ w m.
    let most : (k z : ℕ) → k * f w z ≤ k * largest ws (λ w. f w z) = λ k z. mul-le-mul_left k (largest_at ws (λ w. f w z) w m) in
    omega (arith, h w x i j whole, most i (n * x), most j (n * x + n))))

-- One task, n parts

module _ (t : Task) (n q : ℕ) where
  -- ends on the finer grid are n times ours
  ends_finer : (w : Way) (v : ℕ) → get_or (endings t (n * q) w) v 0 ≡ n * get_or (endings t q w) v 0
  unfolding endings
  ends_finer w v = at (n * q) ∙ mul_assoc n q _ ∙ ap (λ e. n * e) (sym (at q))
    where
      at : (k : ℕ) → get_or (endings t k w) v 0 ≡ k * get_or (finish (waits_for t.shape w) (time t) (size t.shape)) v 0
      at k = finish_scale (waits_for t.shape w) (time t) k (size t.shape) v

  -- and so are starts
  begun_finer : (w : Way) (v : ℕ) → begun t (n * q) w v ≡ n * begun t q w v
  unfolding begun
  begun_finer w v =
      most_ext v _ _ (λ u lt.
      ap (λ e. only (waits_for t.shape w u v) e) (ends_finer w u) ∙ only_scale (waits_for t.shape w u v) n (get_or (endings t q w) u 0))
      ∙ most_scale v n (λ u. only (waits_for t.shape w u v) (get_or (endings t q w) u 0))

  -- so remaining work there is that of jobs that start and end on multiples of n
  remaining_finer :
      (w : Way) (z : ℕ)
      → remaining t (n * q) w z
      ≡ sum (size t.shape) (λ v. only (present t.shape w v) (rest (n * begun t q w v) (n * (q * time t v)) z))
  remaining_finer w z =
      remaining_is t (n * q) w z
      ∙ sum_ext (size t.shape) _ _ (λ v lt.
      let b = present t.shape w v in
      ap (λ s. only b (rest s (n * q * time t v) z)) (begun_finer w v)
      ∙ ap (λ c. only b (rest (n * begun t q w v) c z)) (mul_assoc n q (time t v)))

  -- at our ticks n times as much is left
  remaining_multiple : (w : Way) (x : ℕ) → remaining t (n * q) w (n * x) ≡ n * remaining t q w x
  remaining_multiple w x =
      remaining_finer w (n * x)
      ∙ sum_ext (size t.shape) _ _ (λ v lt.
      let b = present t.shape w v in
      let s = begun t q w v in
      let c = q * time t v in
      ap (λ r. only b r) (rest_scale n s c x) ∙ only_scale b n (rest s c x))
      ∙ sum_scale (size t.shape) n (λ v. only (present t.shape w v) (rest (begun t q w v) (q * time t v) x))
      ∙ ap (λ r. n * r) (sym (remaining_is t q w x))

  pub rdem_multiple : (x : ℕ) → rdem t (n * q) (n * x) ≡ n * rdem t q x
  unfolding rdem
  rdem_multiple x =
      largest_ext (ways t.shape) _ _ (λ w. remaining_multiple w x)
      ∙ largest_scale (ways t.shape) n (λ w. remaining t q w x)

  -- between them no more than the chord
  remaining_chord : (w : Way) → Chord n (remaining t (n * q) w)
  remaining_chord w x i j whole =
      rw (remaining_finer w (n * x + j), remaining_finer w (n * x), remaining_finer w (n * x + n))
      (sum_chord n (size t.shape) (λ v z. only (present t.shape w v) (job v z))
      (λ v lt. only_chord n (present t.shape w v) (job v) (rest_chord n (begun t q w v) (q * time t v))) x i j whole)
    where
      job : ℕ → ℕ → ℕ
      job v z = rest (n * begun t q w v) (n * (q * time t v)) z

  pub rdem_chord : Chord n (rdem t (n * q))
  unfolding rdem
  rdem_chord = largest_chord n (ways t.shape) (λ w z. remaining t (n * q) w z) remaining_chord
