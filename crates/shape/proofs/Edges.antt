-- The edges of a task: its graph is upward by them, and each turn of their loop adds one to the words at its two ends.
use Prim.Native.Nat.{ℕ, ◌+◌, ◌<◌}
use mathlib.Core.Path.{◌≡◌, refl, sym, ◌∙◌, ap, ap₂}
use mathlib.Core.Bool.{Bool, false, ◌&&◌, ◌||◌, and_comm, or-false, or_assoc}
use mathlib.Core.List.{List, [], ◌∷◌, ◌++◌}
use mathlib.Core.Logic.{inl, inr}
use native.Mathlib.Numerals.{add-one}
use native.Mathlib.Omega.{arith}
use lib.Dec.{eqb}
use lib.ListN.{length, get_or, set, replicate, length-set}
use lib.Seq.{get_or-set_same, get_or-set_other}
use borrow.Author.Tests.{eqb-true, eqb-false}
use Rattle.model.specs.Limits.{most_vertices}
use Rattle.model.specs.Range.{listed}
use Rattle.model.specs.Graph.{Edge, lists_edge, edge}
use Rattle.model.specs.Records.{Fields, fields_at, records, behind, shape_at}
use Rattle.model.proofs.Ranges.{decided, eqb_comm}
use Rattle.model.proofs.Lists.{padded}
use Rattle.records.specs.Rows.{Tabled}
use Rattle.records.proofs.Tabled.{sized, row_there, edge_row, edge_within}
use Rattle.vertices.specs.Members.{has}
use Rattle.vertices.proofs.Members.{has_zero}
use Rattle.graph.specs.declared.links.Links.{Links}
use Rattle.graph.specs.Words.{Upward, LinksOf}

-- a task whose records keep the table has a graph
pub upward : {bytes : List ℕ} {place : ℕ} → Tabled bytes place → Upward (shape_at bytes place) (fields_at bytes place).b
upward t =
    let size = sized t.task in
    record {
      counted = size.vertices;
      small = size.high;
      up = λ u v h. (edge_within t u v h).0;
      inside = λ u v h. (edge_within t u v h).1;
    }

-- of 64 words the one at v holds u just where the test says so
pub record Holds (words : List ℕ) (p : ℕ → ℕ → Bool) : Type 0 where
  pub wide : length words ≡ most_vertices
  pub held : (v u : ℕ) → has (get_or words v 0) u ≡ p v u

nothing_held : Holds (replicate most_vertices 0) (λ v u. false)
nothing_held = record { wide = refl; held = λ v u. ap (λ w. has w u) (padded [] 64 v) ∙ has_zero u }

-- one store: the word at `at` gains x
stored :
    {words : List ℕ} {p q : ℕ → ℕ → Bool} (at x w : ℕ) → Holds words p → at < most_vertices
    → ((u : ℕ) → has w u ≡ (has (get_or words at 0) u || eqb u x)) → ((v u : ℕ) → q v u ≡ (p v u || (eqb at v && eqb x u)))
    → Holds (set words at w) q
stored {words} {p} {q} at x w h low gains next = record { wide = length-set words at w ∙ h.wide; held = after }
  where
    after : (v u : ℕ) → has (get_or (set words at w) v 0) u ≡ q v u
    after v u =
        elim (decided (eqb at v)) [
          | inl e ↦
              let q = eqb-true at v e in
              ap (λ k. has (get_or (set words at w) k 0) u) (sym q)
              ∙ ap (λ y. has y u) (get_or-set_same words at w 0 (omega (arith, h.wide))) ∙ gains u
              ∙ ap₂ ◌||◌ (h.held at u ∙ ap (λ k. p k u) q) (eqb_comm u x ∙ ap (λ b. b && eqb x u) (sym e))
          | inr e ↦
              ap (λ y. has y u) (get_or-set_other words at v w 0 (λ q. eqb-false at v e (sym q))) ∙ h.held v u
              ∙ sym (ap (λ b. p v u || (b && eqb x u)) e ∙ or-false (p v u))
        ]
        ∙ sym (next v u)

-- one edge more in a list
lists_last :
    (es : List Edge) (e : Edge) (u v : ℕ)
    → lists_edge (es ++ e ∷ []) u v ≡ (lists_edge es u v || (eqb e.from u && eqb e.to v))
lists_last [] e u v = or-false (eqb e.from u && eqb e.to v)
lists_last (d ∷ es) e u v =
    ap (λ b. eqb d.from u && eqb d.to v || b) (lists_last es e u v)
    ∙ sym (or_assoc (eqb d.from u && eqb d.to v) (lists_edge es u v) (eqb e.from u && eqb e.to v))

module _ (bytes : List ℕ) (place : ℕ) where
  -- edge record j
  abbrev edge_at : ℕ → Edge
  edge_at j =
      let r = fields_at bytes (place + 1 + (fields_at bytes place).b + j) in
      record { from = r.c; to = r.d }

  -- one of the first k edges leads from u to v
  abbrev among : ℕ → ℕ → ℕ → Bool
  among k u v = lists_edge (listed k edge_at) u v

  among_next : (k u v : ℕ) → among (k + 1) u v ≡ (among k u v || (eqb (edge_at k).from u && eqb (edge_at k).to v))
  among_next k u v = rw (add-one k) (lists_last (listed k edge_at) (edge_at k) u v)

  -- at each vertex one word holds those from which one of the first k edges leads to it, the other those to which one leads from it
  pub record Linked (k : ℕ) (into out : List ℕ) : Type 0 where
    pub back : Holds into (λ v u. among k u v)
    pub forth : Holds out (λ u v. among k u v)

  pub none_linked : Linked 0 (replicate most_vertices 0) (replicate most_vertices 0)
  none_linked = record { back = nothing_held; forth = nothing_held }

  pub all_linked :
      {k : ℕ} {links : Links} → k ≡ (fields_at bytes place).e → Linked k links.into links.out → LinksOf (shape_at bytes place) links
  unfolding shape_at edge
  all_linked e l =
      record {
        into = λ u v. l.back.held v u ∙ ap (λ n. among n u v) e;
        out = λ u v. l.forth.held u v ∙ ap (λ n. among n u v) e;
      }

-- The record of an edge, as the code reads it
module _ {bytes : List ℕ} {place : ℕ} (t : Tabled bytes place) {n j : ℕ} (is_n : n ≡ (fields_at bytes place).b)
    (lt : j < (fields_at bytes place).e) where
  pub edge_there : place + 1 + n + j < records bytes
  unfolding behind
  edge_there = omega (arith, is_n, row_there t ((fields_at bytes place).b + j) (omega arith))

  module _ {r : Fields} (is_edge : r ≡ fields_at bytes (place + 1 + n + j)) where
    row : r ≡ fields_at bytes (place + 1 + (fields_at bytes place).b + j)
    row = is_edge ∙ ap (λ k. fields_at bytes (place + 1 + k + j)) is_n

    pub edge_low : (r.c < most_vertices) × (r.d < most_vertices)
    edge_low =
        let size = sized t.task in
        let up = edge_row t j lt in
        rw row (omega arith)

    -- it goes into the word at its end, and into the word at its start
    pub linked_more :
        {into out : List ℕ} (a b : ℕ) → Linked bytes place j into out
        → ((u : ℕ) → has a u ≡ (has (get_or into r.d 0) u || eqb u r.c))
        → ((u : ℕ) → has b u ≡ (has (get_or out r.c 0) u || eqb u r.d))
        → Linked bytes place (j + 1) (set into r.d a) (set out r.c b)
    linked_more a b l gains_a gains_b =
        let now = among bytes place j in
        let next : (u v : ℕ) → among bytes place (j + 1) u v ≡ (now u v || (eqb r.c u && eqb r.d v)) =
        λ u v. among_next bytes place j u v ∙ ap (λ f. now u v || (eqb f.c u && eqb f.d v)) (sym row) in
        record {
          back =
              stored r.d r.c a l.back edge_low.1 gains_a
              (λ v u. next u v ∙ ap (λ x. now u v || x) (and_comm (eqb r.c u) (eqb r.d v)));
          forth = stored r.c r.d b l.forth edge_low.0 gains_b next;
        }
