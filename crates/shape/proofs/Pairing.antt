-- G2 by the starts alone: where the mate of each start names it back, G2 holds just where these mates are the ends.
use Prim.Native.Nat.{ℕ}
use mathlib.Core.Path.{◌≡◌, sym, ◌∙◌, ap}
use mathlib.Core.Bool.{Bool, true, false, not, ◌&&◌, ◌||◌}
use mathlib.Core.Logic.{inl, inr}
use native.Mathlib.Omega.{arith}
use lib.Dec.{eqb}
use borrow.Author.Tests.{eqb-true, eq-eqb}
use Rattle.model.specs.Graph.{Shape, size, starts, ends, mate, pairs, G2}
use Rattle.model.proofs.Ranges.{and_left, and_right, and_both, or_left, or_right, or_cases, is_false, not_both, same_test, implied, implies, every_at, every_of}
use Rattle.vertices.specs.Members.{has}
use Rattle.vertices.proofs.Members.{has_zero, same_members}
use Rattle.shape.specs.Choices.{AreStarts, AreEnds}
use Rattle.shape.proofs.RoleWords.{role_below}
use Rattle.shape.proofs.Walk.{Takes, gone, still, none_left, all_left, none_passed}

-- half of G2 at a vertex: where the test holds, the mate has the other role and names the vertex back
asked : (a b : Bool) {m v : ℕ} → (not a || b && eqb m v) ≡ true → a ≡ true → (b ≡ true) × (m ≡ v)
asked a b {m} {v} h holds =
    let both = implied a (b && eqb m v) h holds in (and_left b (eqb m v) both, eqb-true m v (and_right b (eqb m v) both))

answered : (a b : Bool) {m v : ℕ} → (a ≡ true → (b ≡ true) × (m ≡ v)) → (not a || b && eqb m v) ≡ true
answered a b {m} {v} h =
    implies a (b && eqb m v) (λ holds. let both = h holds in and_both b (eqb m v) both.0 (eq-eqb m v both.1))

module _ (t : Shape) where
  -- what G2 says of a start and of an end
  module _ (rule : G2 t ≡ true) (v : ℕ) where
    start_back : starts t v ≡ true → (ends t (mate t v) ≡ true) × (mate t (mate t v) ≡ v)
    unfolding G2 pairs
    start_back h =
        asked (starts t v) (ends t (mate t v)) (and_left _ _ (every_at (size t) (pairs t) rule v (role_below t v 1 (omega arith) h))) h

    end_back : ends t v ≡ true → (starts t (mate t v) ≡ true) × (mate t (mate t v) ≡ v)
    unfolding G2 pairs
    end_back h =
        asked (ends t v) (starts t (mate t v))
        (and_right (not (starts t v) || ends t (mate t v) && eqb (mate t (mate t v)) v) _
        (every_at (size t) (pairs t) rule v (role_below t v 2 (omega arith) h)))
        h

  -- a start whose mate names another breaks it
  pub not_back : (v : ℕ) → starts t v ≡ true → (mate t (mate t v) ≡ v → ⊥) → false ≡ G2 t
  not_back v h other = sym (is_false (G2 t) (λ rule. other (start_back rule v h).1))

-- whoever is left is a start; the mate of each start that is not left is named, and names it back
pub record Named (t : Shape) (left named : ℕ) : Type 0 where
  pub inside : (u : ℕ) → has left u ≡ true → starts t u ≡ true
  pub back : (u : ℕ) → starts t u ≡ true → has left u ≡ false → (has named (mate t u) ≡ true) × (mate t (mate t u) ≡ u)
  pub from : (u : ℕ) → has named u ≡ true → (starts t (mate t u) ≡ true) × (mate t (mate t u) ≡ u)

module _ (t : Shape) where
  pub named_none : (w : ℕ) → AreStarts t w → Named t w 0
  named_none w are =
      record {
        inside = all_left t w are;
        back = λ u h out. absurd (none_passed t w are u h out);
        from = λ u h. absurd (not_both (has 0 u) h (has_zero u));
      }

module _ {t : Shape} {left named : ℕ} (before : Named t left named) where
  pub named_more :
      {v after : ℕ} (end more : ℕ) → Takes left v after → end ≡ mate t v → mate t end ≡ v
      → ((u : ℕ) → has more u ≡ (has named u || eqb u end)) → Named t after more
  named_more {v} end more turn e again grown =
      record {
        inside = still turn (starts t) before.inside;
        back = λ u h out.
            elim (gone turn u out) [
              | inl q ↦ (
                grown (mate t u) ∙ or_right (has named (mate t u)) _ (eq-eqb (mate t u) end (ap (mate t) q ∙ sym e)),
                ap (mate t) (ap (mate t) q ∙ sym e) ∙ again ∙ sym q,
              )
              | inr o ↦
                  let b = before.back u h o in
                  (grown (mate t u) ∙ or_left (has named (mate t u)) _ b.0, b.1)
            ];
        from = λ u h.
            elim (or_cases (has named u) (eqb u end) (sym (grown u) ∙ h)) [
              | inl a ↦ before.from u a
              | inr a ↦
                  let q = eqb-true u end a in
                  let m : mate t u ≡ v = ap (mate t) q ∙ again in
                  (ap (starts t) m ∙ before.inside v turn.member, ap (mate t) m ∙ sym e ∙ sym q)
            ];
      }

  -- at last G2 asks that those named are the ends
  pub named_all : (w : ℕ) → left ≡ 0 → AreEnds t w → eqb named w ≡ G2 t
  unfolding G2 pairs
  named_all w e are =
      same_test (eqb named w) (G2 t)
      (λ same.
      let q = eqb-true named w same in
      every_of (size t) (pairs t) (λ v _.
      and_both (not (starts t v) || ends t (mate t v) && eqb (mate t (mate t v)) v) _
      (answered (starts t v) (ends t (mate t v))
      (λ h. let b = before.back v h (none_left e v) in
      (sym (are (mate t v)) ∙ ap (λ x. has x (mate t v)) (sym q) ∙ b.0, b.1)))
      (answered (ends t v) (starts t (mate t v)) (λ h. before.from v (ap (λ x. has x v) q ∙ are v ∙ h)))))
      (λ rule.
      eq-eqb named w (same_members named w (λ u.
      same_test (has named u) (has w u)
      (λ h. let f = before.from u h in are u ∙ ap (ends t) (sym f.1) ∙ (start_back t rule (mate t u) f.0).0)
      (λ h.
      let f = end_back t rule u (sym (are u) ∙ h) in
      ap (has named) (sym f.1) ∙ (before.back (mate t u) f.0 (none_left e (mate t u))).0))))
