-- The ways of a graph are exactly the choices of one arm at each start, and `largest` is the largest over them.
use Prim.Native.Nat.{ℕ, zero, suc, ◌*◌, ◌≤◌, ◌<◌}
use mathlib.Core.Path.{◌≡◌, refl, sym, ◌∙◌, ap, subst}
use mathlib.Core.List.Memᴰ
use mathlib.Core.List.{List, [], ◌∷◌, ◌++◌, Memᴰ}
use mathlib.Core.Logic.{inl, inr}
use native.Mathlib.Nat.{not-suc-le-zero, max-le, mul-zero}
use native.Mathlib.Omega.{arith}
use lib.ListN.{length, take, length-append, get_or-append}
use lib.Seq.{take-suc, take_all, length-take-le, get_or-take, get_or_at}
use Rattle.model.specs.Range.{listed}
use Rattle.model.specs.Graph.{Shape, size}
use Rattle.model.specs.Realization.{Way, taken, options, extended, ways_below, ways, largest}
use Rattle.model.proofs.Ranges.{scale_max, below_suc, length_listed, get_d_listed}

-- largest over a list of ways

pub largest_at : (ws : List Way) (f : Way → ℕ) (w : Way) → Memᴰ w ws → f w ≤ largest ws f
largest_at [] f w h = absurd (Memᴰ.not-nil h)
largest_at (a ∷ ws) f w h =
    elim (Memᴰ.cases_cons h) [
      | inl e ↦ let r = ap f e in omega arith
      | inr m ↦ let r = largest_at ws f w m in omega arith
    ]

pub largest_le : (ws : List Way) (f : Way → ℕ) (k : ℕ) → ((w : Way) → Memᴰ w ws → f w ≤ k) → largest ws f ≤ k
largest_le [] f k h = omega arith
largest_le (a ∷ ws) f k h =
    max-le (h a (Memᴰ.head refl)) (largest_le ws f k (λ w m. h w (Memᴰ.tail m)))

pub largest_mono : (ws : List Way) (f g : Way → ℕ) → ((w : Way) → f w ≤ g w) → largest ws f ≤ largest ws g
largest_mono [] f g h = omega arith
largest_mono (a ∷ ws) f g h = let r = largest_mono ws f g h in let s = h a in omega arith

pub largest_ext : (ws : List Way) (f g : Way → ℕ) → ((w : Way) → f w ≡ g w) → largest ws f ≡ largest ws g
largest_ext [] f g h = refl
largest_ext (a ∷ ws) f g h = let r = largest_ext ws f g h in let s = h a in omega arith

pub largest_scale : (ws : List Way) (q : ℕ) (f : Way → ℕ) → largest ws (λ w. q * f w) ≡ q * largest ws f
largest_scale [] q f = sym (mul-zero q)
largest_scale (a ∷ ws) q f = let r = largest_scale ws q f in let s = scale_max q (f a) (largest ws f) in omega arith

-- the members of `listed` and `extended`

listed_has : {A : Type 0} (n : ℕ) (f : ℕ → A) (i : ℕ) → i < n → Memᴰ (f i) (listed n f)
listed_has zero f i lt = absurd (not-suc-le-zero lt)
listed_has (suc n) f i lt =
    elim (below_suc lt) [
      | inl e ↦ Memᴰ.append_right (listed n f) (Memᴰ.head (ap f e))
      | inr l ↦ Memᴰ.append_left (f n ∷ []) (listed_has n f i l)
    ]

listed_only : {A : Type 0} (n : ℕ) (f : ℕ → A) (a : A) → Memᴰ a (listed n f) → (i : ℕ) × (i < n) × (a ≡ f i)
listed_only zero f a m = absurd (Memᴰ.not-nil m)
listed_only (suc n) f a m =
    elim (Memᴰ.append_cases (listed n f) m) [
      | inl b ↦ let r = listed_only n f a b in (r.0, (let l = r.1 in omega arith), r.2)
      | inr s ↦ (n, omega arith, Memᴰ.eq_of_singleton s)
    ]

extended_has : (ws : List Way) (k : ℕ) (w : Way) (i : ℕ) → Memᴰ w ws → i < k → Memᴰ (w ++ i ∷ []) (extended ws k)
extended_has [] k w i m lt = absurd (Memᴰ.not-nil m)
extended_has (a ∷ ws) k w i m lt =
    elim (Memᴰ.cases_cons m) [
      | inl e ↦
          Memᴰ.append_left (extended ws k)
          (Memᴰ.cast (ap (λ (l : Way). l ++ i ∷ []) e) (listed_has k (λ j. a ++ j ∷ []) i lt))
      | inr r ↦ Memᴰ.append_right (listed k (λ j. a ++ j ∷ [])) (extended_has ws k w i r lt)
    ]

extended_only :
    (ws : List Way) (k : ℕ) (v : Way) → Memᴰ v (extended ws k)
    → (w : Way) × (i : ℕ) × Memᴰ w ws × (i < k) × (v ≡ w ++ i ∷ [])
extended_only [] k v m = absurd (Memᴰ.not-nil m)
extended_only (a ∷ ws) k v m =
    elim (Memᴰ.append_cases (listed k (λ j. a ++ j ∷ [])) m) [
      | inl b ↦ let r = listed_only k (λ j. a ++ j ∷ []) v b in (a, r.0, Memᴰ.head refl, r.1, r.2)
      | inr s ↦ let r = extended_only ws k v s in (r.0, r.1, Memᴰ.tail r.2, r.3, r.4)
    ]

-- What a way over the vertices below k is: a number for each of them, below its options.
pub record IsWayBelow (t : Shape) (k : ℕ) (w : Way) : Type 0 where
  pub long : length w ≡ k
  pub chosen : (s : ℕ) → s < k → taken w s < options t s

abbrev pub IsWay : Shape → Way → Type 0
IsWay t w = IsWayBelow t (size t) w

-- a way's last choice taken off
shorter : (t : Shape) (k : ℕ) (w : Way) → IsWayBelow t (suc k) w → IsWayBelow t k (take k w)
shorter t k w h =
    record {
      long = length-take-le k w (let l = h.long in omega arith);
      chosen = λ s lt.
          subst (λ x. x < options t s) (sym (get_or-take k w s 0 lt)) (h.chosen s (omega arith));
    }

last_choice : (t : Shape) (k : ℕ) (w : Way) → IsWayBelow t (suc k) w → w ≡ take k w ++ taken w k ∷ []
last_choice t k w h =
    sym (take_all (suc k) w (let l = h.long in omega arith)) ∙ take-suc w k 0 (let l = h.long in omega arith)

ways_below_has : (t : Shape) (k : ℕ) (w : Way) → IsWayBelow t k w → Memᴰ w (ways_below t k)
ways_below_has t zero [] h = Memᴰ.head refl
ways_below_has t zero (i ∷ w) h = absurd (let l = h.long in omega arith)
ways_below_has t (suc k) w h =
    Memᴰ.cast (last_choice t k w h)
    (extended_has (ways_below t k) (options t k) (take k w) (taken w k) (ways_below_has t k (take k w) (shorter t k w h)) (h.chosen k (omega arith)))

-- a way gone on with one more choice
longer : (t : Shape) (k : ℕ) (w : Way) (i : ℕ) → IsWayBelow t k w → i < options t k → IsWayBelow t (suc k) (w ++ i ∷ [])
longer t k w i h lt =
    record {
      long = length-append w (i ∷ []) ∙ (let l = h.long in omega arith);
      chosen = λ s below.
          elim (below_suc below) [
            | inl e ↦
                subst (λ x. x < options t s) (sym (get_or_at w i [] 0 s (h.long ∙ sym e)))
                (subst (λ r. i < options t r) (sym e) lt)
            | inr l ↦
                subst (λ x. x < options t s)
                (sym (get_or-append w (i ∷ []) 0 s (subst (λ n. s < n) (sym h.long) l))) (h.chosen s l)
          ];
    }

ways_below_only : (t : Shape) (k : ℕ) (w : Way) → Memᴰ w (ways_below t k) → IsWayBelow t k w
ways_below_only t zero w m =
    subst (λ l. IsWayBelow t 0 l) (sym (Memᴰ.eq_of_singleton m))
    (record { long = refl; chosen = λ s lt. absurd (not-suc-le-zero lt) })
ways_below_only t (suc k) w m =
    let r = extended_only (ways_below t k) (options t k) w m in
    subst (λ l. IsWayBelow t (suc k) l) (sym r.4) (longer t k r.0 r.1 (ways_below_only t k r.0 r.2) r.3)

-- no way gives more than the largest
pub most_of_ways : (t : Shape) (f : Way → ℕ) (w : Way) → IsWay t w → f w ≤ largest (ways t) f
unfolding ways
most_of_ways t f w h = largest_at (ways_below t (size t)) f w (ways_below_has t (size t) w h)

-- a bound on every way bounds the largest
pub ways_within : (t : Shape) (f : Way → ℕ) (k : ℕ) → ((w : Way) → IsWay t w → f w ≤ k) → largest (ways t) f ≤ k
unfolding ways
ways_within t f k h = largest_le (ways_below t (size t)) f k (λ w m. h w (ways_below_only t (size t) w m))

-- A way made by a rule that gives each vertex one of its options.
pub way_by : Shape → (ℕ → ℕ) → Way
way_by t choice = listed (size t) choice

pub way_by_is : (t : Shape) (choice : ℕ → ℕ) → ((s : ℕ) → s < size t → choice s < options t s) → IsWay t (way_by t choice)
unfolding way_by
way_by_is t choice h =
    record {
      long = length_listed (size t) choice;
      chosen = λ s lt. subst (λ x. x < options t s) (sym (get_d_listed (size t) choice 0 s lt)) (h s lt);
    }

pub way_by_taken : (t : Shape) (choice : ℕ → ℕ) (s : ℕ) → s < size t → taken (way_by t choice) s ≡ choice s
unfolding way_by
way_by_taken t choice s lt = get_d_listed (size t) choice 0 s lt
