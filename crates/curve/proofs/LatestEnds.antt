-- The last end among a set of vertices, found by a walk over its members, and the latest ends, found by one pass upward.
use Prim.Native.Nat.{ℕ, ◌+◌, ◌-◌, ◌≤◌, ◌<◌, max}
use mathlib.Core.Path.{◌≡◌, sym, ◌∙◌, ap}
use mathlib.Core.Bool.{Bool, true, false, not, ◌&&◌, and-true}
use mathlib.Core.List.{List, [], ◌∷◌, ◌++◌}
use mathlib.Core.Logic.{inl, inr}
use native.Mathlib.Nat.{le_trans, le_antisymm, max-le}
use native.Mathlib.Numerals.{add-one}
use native.Mathlib.Omega.{arith}
use lib.Dec.{eqb}
use lib.ListN.{get_or, set, replicate}
use borrow.Author.Tests.{eqb-true}
use Rattle.model.specs.Limits.{most_vertices, longest_job}
use Rattle.model.specs.Range.{only, sum, most}
use Rattle.model.specs.Realization.{finish}
use Rattle.model.proofs.Ranges.{and_left, decided, only_false, only_le, only_grows, sum_le, most_at_lem, most_le, most_ext, most_mono, most_below, most_only}
use Rattle.model.proofs.Lists.{padded, padded_more}
use Rattle.model.proofs.Finish.{finish_length, finish_beyond}
use Rattle.model.proofs.Bounds.{word, finish_le}

module _ (n : ℕ) (ends : ℕ → ℕ) where
  -- the last end among the vertices that have p
  abbrev last_end : (ℕ → Bool) → ℕ
  last_end p = most n (λ u. only (p u) (ends u))

  -- what is seen, and what is left to see, is all there is
  abbrev pub Seen : (ℕ → Bool) → (ℕ → Bool) → ℕ → Type 0
  Seen all left last = max last (last_end left) ≡ last_end all

  pub none_seen : (all : ℕ → Bool) → Seen all all 0
  none_seen all = omega arith

  pub all_seen : (all left : ℕ → Bool) (last : ℕ) → Seen all left last → ((u : ℕ) → left u ≡ false) → last ≡ last_end all
  all_seen all left last seen empty =
      let none = most_le n 0 (λ u. only (left u) (ends u)) (λ u _. omega (arith, only_false (left u) (ends u) (empty u))) in
      omega arith

  -- a turn takes v off what is left
  module _ (left rest : ℕ → Bool) (v : ℕ) (low : v < n) (held : left v ≡ true)
      (others : (u : ℕ) → rest u ≡ (left u && not (eqb u v))) where
    taken_off : max (ends v) (last_end rest) ≡ last_end left
    taken_off =
        le_antisymm
        (max-le (most_only n left ends v low held)
        (most_mono n _ _ (λ u _. only_grows (rest u) (left u) (λ h. and_left (left u) _ (sym (others u) ∙ h)) (omega arith))))
        (most_le n _ _ (λ u l.
        elim (decided (eqb u v)) [
          | inl e ↦ omega (arith, only_le (left u) (ends u), ap ends (eqb-true u v e))
          | inr e ↦
              let kept = others u ∙ ap (λ b. left u && not b) e ∙ and-true (left u) in
              omega (arith, most_at_lem n (λ w. only (rest w) (ends w)) u l, ap (λ b. only b (ends u)) kept)
        ]))

    pub one_seen : (all : ℕ → Bool) (last next : ℕ) → Seen all left last → next ≡ max last (ends v) → Seen all rest next
    one_seen all last next seen larger = omega (arith, taken_off)

module _ (n : ℕ) (before : ℕ → ℕ → Bool) (cost : ℕ → ℕ) where
  -- of n ends those below v are known, and the others are 0
  abbrev pub Ended : ℕ → List ℕ → Type 0
  Ended v ends = ends ≡ finish before cost v ++ replicate (n - v) 0

  pub end_at : (v : ℕ) (ends : List ℕ) → Ended v ends → (u : ℕ) → get_or ends u 0 ≡ get_or (finish before cost v) u 0
  end_at v ends ended u = ap (λ l. get_or l u 0) ended ∙ padded (finish before cost v) (n - v) u

  -- the end of u, where v waits for it
  abbrev awaited : ℕ → ℕ → ℕ
  awaited v u = only (before u v) (get_or (finish before cost v) u 0)

  -- a turn ends v, after the last end among those that it waits for
  module _ (v last : ℕ) (ends : List ℕ) (low : v < n) (ended : Ended v ends)
      (waited : last ≡ most n (λ u. only (before u v) (get_or ends u 0))) where
    -- none from v on is among them
    waited_below : last ≡ most v (awaited v)
    waited_below =
        waited
        ∙ most_ext n _ (awaited v) (λ u _. ap (λ x. only (before u v) x) (end_at v ends ended u))
        ∙ most_below v n (awaited v) (omega arith)
        (λ u l. omega (arith, only_le (before u v) (get_or (finish before cost v) u 0), finish_beyond before cost v u l))

    pub end_fits : n ≤ most_vertices → ((u : ℕ) → cost u ≤ longest_job) → last + cost v < word
    end_fits few short =
        let all = sum_le v longest_job cost (λ u _. short u) in
        let latest = most_le v (sum v cost) (awaited v) (λ u _. le_trans (only_le (before u v) _) (finish_le before cost v u)) in
        omega (arith, waited_below, short v)

    pub one_ended : Ended (v + 1) (set ends v (last + cost v))
    one_ended =
        let zeros : List ℕ = replicate (n - (v + 1)) 0 in
        ap (λ l. set l v (last + cost v)) ended
        ∙ padded_more (finish before cost v) n v (last + cost v) (finish_length before cost v) low
        ∙ ap (λ x. (finish before cost v ++ (x + cost v) ∷ []) ++ zeros) waited_below
        ∙ ap (λ k. finish before cost k ++ zeros) (sym (add-one v))
