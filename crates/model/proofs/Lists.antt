-- A property of each element of a list, and of each place of it. Lists with the same elements, and lists that zeros fill up.
use Prim.Native.Nat.{ℕ, zero, suc, ◌+◌, ◌-◌, ◌<◌}
use mathlib.Core.Path.{◌≡◌, refl, sym, ◌∙◌, ap, ap₂}
use mathlib.Core.List.{List, [], ◌∷◌, ◌++◌, map}
use native.Mathlib.Omega.{arith}
use lib.ListN.{length, get_or, set, replicate}
use lib.Seq.{append_snoc, set_at}
use Rattle.model.specs.Range.{listed}

abbrev pub Each {ℓ} : {A : Type ℓ} → (A → Type 0) → List A → Type 0
Each P [] = Unit {0}
Each P (a ∷ l) = P a × Each P l

pub each_map {ℓ} :
    {A B : Type ℓ} (P : A → Type 0) (Q : B → Type 0) (f : A → B) (l : List A) → ((a : A) → P a → Q (f a)) → Each P l
    → Each Q (map f l)
each_map P Q f [] g h = tt
each_map P Q f (a ∷ l) g h = (g a h.0, each_map P Q f l g h.1)

module _ {ℓ} {A : Type ℓ} (P : A → Type 0) where
  pub each_append : (l m : List A) → Each P l → Each P m → Each P (l ++ m)
  each_append [] m h k = k
  each_append (a ∷ l) m h k = (h.0, each_append l m h.1 k)

  pub each_listed : (n : ℕ) (f : ℕ → A) → ((i : ℕ) → i < n → P (f i)) → Each P (listed n f)
  each_listed zero f h = tt
  each_listed (suc n) f h =
      each_append (listed n f) (f n ∷ []) (each_listed n f (λ i l. h i (omega arith))) (h n (omega arith), tt)

  -- beyond the list stands the default
  pub each_get_d : (l : List A) (d : A) → Each P l → P d → (i : ℕ) → P (get_or l i d)
  each_get_d [] d h k i = k
  each_get_d (a ∷ l) d h k zero = h.0
  each_get_d (a ∷ l) d h k (suc i) = each_get_d l d h.1 k i

  pub each_at : (l : List A) (d : A) → ((i : ℕ) → i < length l → P (get_or l i d)) → Each P l
  each_at [] d h = tt
  each_at (a ∷ l) d h = (h 0 (omega arith), each_at l d (λ i lt. h (suc i) (omega arith)))

  pub each_weaken : (Q : A → Type 0) (l : List A) → ((a : A) → P a → Q a) → Each P l → Each Q l
  each_weaken Q [] f h = tt
  each_weaken Q (a ∷ l) f h = (f a h.0, each_weaken Q l f h.1)

-- a list is known by its length and its elements
pub same-list {ℓ} : {A : Type ℓ} (d : A) (l m : List A) → length l ≡ length m → ((i : ℕ) → get_or l i d ≡ get_or m i d) → l ≡ m
same-list d [] [] n h = refl
same-list d [] (b ∷ m) n h = absurd (omega (arith, n))
same-list d (a ∷ l) [] n h = absurd (omega (arith, n))
same-list d (a ∷ l) (b ∷ m) n h = ap₂ ◌∷◌ (h 0) (same-list d l m (omega (arith, n)) (λ i. h (suc i)))

-- zeros behind a list change nothing
pub padded : (l : List ℕ) (k i : ℕ) → get_or (l ++ replicate k 0) i 0 ≡ get_or l i 0
padded [] zero i = refl
padded [] (suc k) zero = refl
padded [] (suc k) (suc i) = padded [] k i
padded (a ∷ l) k zero = refl
padded (a ∷ l) k (suc i) = padded l k i

-- a store in place of the first of them
pub padded_more :
    (l : List ℕ) (n i a : ℕ) → length l ≡ i → i < n
    → set (l ++ replicate (n - i) 0) i a ≡ (l ++ a ∷ []) ++ replicate (n - (i + 1)) 0
padded_more l n i a e low =
    let room : n - i ≡ suc (n - (i + 1)) = omega arith in
    let zeros : List ℕ = replicate (n - (i + 1)) 0 in
    ap (λ k. set (l ++ replicate k 0) i a) room ∙ set_at l 0 zeros a i e ∙ sym (append_snoc l a zeros)
