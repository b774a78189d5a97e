-- The pairs of a task, made from its last tick downward: a run of ticks of one width in front makes a new pair or lengthens the first.
use Prim.Native.Nat.{ℕ, zero, suc, ◌+◌, ◌-◌, ◌*◌, ◌≤◌, ◌<◌}
use mathlib.Core.Path.{◌≡◌, refl, sym, ◌∙◌, ap}
use mathlib.Core.Bool.{Bool, true, false, cond}
use mathlib.Core.List.{List, [], ◌∷◌, ◌++◌, append_assoc}
use native.Mathlib.Nat.{le_trans, le_refl, lt_of_le_of_lt, mul-add}
use native.Mathlib.Numerals.{add-one, unary_clauses}
use native.Mathlib.Omega.{arith}
use lib.Dec.{eqb}
use lib.ListN.{length, get_or, take, drop, set, length-drop, length-set, length-append, take-append-drop, drop_of_length-le}
use lib.Seq.{drop-cons, take-append-le, take-take, drop_at, get_or_at, set_at, sets-eq, length-take-le, get_or-append-add}
use borrow.Author.Tests.{eq-eqb, ne_eqb}
use Rattle.model.specs.Limits.{largest_part, largest_volume}
use Rattle.model.specs.Curve.{Curve}
use Rattle.model.specs.Lawful.{Limited}
use Rattle.model.specs.Layers.{Layer, widths, with_tick, joined, layers, as_words}
use Rattle.model.proofs.Ranges.{length_listed, get_d_listed}
use Rattle.model.proofs.Easing.{remains_most}
use Rattle.model.proofs.Speeds.{speed_kept}
use Rattle.model.proofs.Bounds.{word, short_word, widened, volume_fits, pairs_within}
use Rattle.units.specs.declared.Speed.{Speed}
use Rattle.units.specs.Rack.{SpeedInRange}
use Rattle.curve.specs.declared.chart.Chart.{Chart}
use Rattle.curve.specs.Tables.{table_curve}
use Rattle.piece.specs.Piece.{Linear}
use Rattle.piece.specs.declared.Piece.{Piece}

-- The first pair

-- its width, and how long it lasts; 0 where there is none
abbrev pub front : List Layer → ℕ
front ls = get_or (as_words ls) 0 0

abbrev pub lasts : List Layer → ℕ
lasts ls = get_or (as_words ls) 1 0

-- what holds of a longer first pair and of a new one holds with a tick in front
either :
    (P : List Layer → Type 0) (w : ℕ) (l : Layer) (ls : List Layer)
    → P (record { width = w; duration = suc l.duration } ∷ ls) → P (record { width = w; duration = 1 } ∷ l ∷ ls)
    → P (with_tick w (l ∷ ls))
either P w l ls longer new = go (eqb w l.width)
  where
    go :
        (b : Bool)
        → P (cond b (record { width = w; duration = suc l.duration } ∷ ls) (record { width = w; duration = 1 } ∷ l ∷ ls))
    go true = longer
    go false = new

-- it lasts one tick longer at most
tick_lasts : (w : ℕ) (ls : List Layer) → lasts (with_tick w ls) ≤ suc (lasts ls)
tick_lasts w [] = omega arith
tick_lasts w (l ∷ ls) = either (λ k. lasts k ≤ suc l.duration) w l ls (omega arith) (omega arith)

-- no pair is lost
tick_count : (w : ℕ) (ls : List Layer) → length ls ≤ length (with_tick w ls)
tick_count w [] = omega arith
tick_count w (l ∷ ls) = either (λ k. suc (length ls) ≤ length k) w l ls (omega arith) (omega arith)

joined_lasts : (ws : List ℕ) → lasts (joined ws) ≤ length ws
joined_lasts [] = omega arith
joined_lasts (w ∷ ws) = let r = joined_lasts ws in let s = tick_lasts w (joined ws) in omega arith

joined_fewer : (x : ℕ) (ws : List ℕ) → length (joined (drop x ws)) ≤ length (joined ws)
joined_fewer zero ws = omega arith
joined_fewer (suc x) [] = omega arith
joined_fewer (suc x) (w ∷ ws) = let r = joined_fewer x ws in let s = tick_count w (joined ws) in omega arith

-- Runs of ticks

-- n more ticks of one width in front
abbrev with_run : ℕ → ℕ → List Layer → List Layer
with_run w zero ls = ls
with_run w (suc n) ls = with_tick w (with_run w n ls)

-- ticks of another width than the first make a new pair
opens :
    (w n : ℕ) (ls : List Layer) → 0 < n → (0 < length ls → w ≡ front ls → ⊥)
    → with_run w n ls ≡ record { width = w; duration = n } ∷ ls
opens w zero ls some other = absurd (omega arith)
opens w (suc zero) [] some other = refl
opens w (suc zero) (l ∷ ls) some other = rw (ne_eqb w l.width (other (omega arith)))
opens w (suc (suc n)) ls some other = rw (opens w (suc n) ls (omega arith) other, eq-eqb w w refl)

-- ticks of its width lengthen it
lengthens :
    (w n : ℕ) (ls : List Layer) → 0 < length ls → w ≡ front ls
    → with_run w n ls ≡ record { width = front ls; duration = lasts ls + n } ∷ drop 1 ls
lengthens w n [] some same = absurd (omega arith)
lengthens w zero (l ∷ ls) some same = simp unary_clauses
lengthens w (suc n) (l ∷ ls) some same = rw (lengthens w n (l ∷ ls) some same, eq-eqb w l.width same, same) (simp unary_clauses)

-- Ticks downward

-- the pairs of ticks x, x + 1 ..
unfoldable pub behind : Curve → ℕ → ℕ → List Layer
behind c q x = joined (drop x (widths c q))

module _ (c : Curve) (q : ℕ) where
  ticks : length (widths c q) ≡ q * c.length
  unfolding widths
  ticks = length_listed (q * c.length) (λ x. c.remains q x - c.remains q (suc x))

  pub behind_all : {x : ℕ} → x ≡ 0 → behind c q x ≡ layers c q
  unfolding behind layers
  behind_all e = ap (behind c q) e

  pub behind_none : {x : ℕ} → x ≡ q * c.length → behind c q x ≡ []
  unfolding behind
  behind_none {x} e = ap joined (drop_of_length-le (widths c q) {i = x} (omega (arith, ticks)))

  -- no more than all of them
  behind_fewer : {pairs : ℕ} (x : ℕ) → pairs ≡ length (layers c q) → length (behind c q x) ≤ pairs
  unfolding behind layers
  behind_fewer x e = omega (arith, joined_fewer x (widths c q))

  pub behind_fits : (x : ℕ) → Limited c → q ≤ largest_part → length (behind c q x) < short_word
  behind_fits x limits low =
      lt_of_le_of_lt (le_trans (behind_fewer x refl) (pairs_within c q limits)) (volume_fits low (le_refl largest_volume))

  -- the first of them lasts no longer than the ticks from x on
  behind_lasts : (x : ℕ) → x ≤ q * c.length → lasts (behind c q x) + x ≤ q * c.length
  unfolding behind
  behind_lasts x le = omega (arith, joined_lasts (drop x (widths c q)), length-drop x (widths c q), ticks)

  -- a tick in front of those behind it
  behind_tick :
      (x : ℕ) → x < q * c.length
      → behind c q x ≡ with_tick (c.remains q x - c.remains q (suc x)) (behind c q (suc x))
  unfolding behind widths
  behind_tick x lt =
      let fall : (ℕ → ℕ) = λ x. c.remains q x - c.remains q (suc x) in
      ap joined (drop-cons (widths c q) x 0 (omega (arith, ticks)))
      ∙ ap (λ w. with_tick w (behind c q (suc x))) (get_d_listed (q * c.length) fall 0 x lt)

-- at tick x the loop meets a piece of the curve
pub record Turn (c : Curve) (q x : ℕ) (piece : Piece) : Type 0 where
  pub within : x ≤ q * c.length
  pub line : Linear (c.remains q) x piece

module _ {c : Curve} {q x : ℕ} {piece : Piece} (turn : Turn c q x piece) where
  -- the width of each of its ticks is its slope
  ticks_more : (j : ℕ) → j ≤ piece.run.0 → behind c q (x - j) ≡ with_run piece.slope j (behind c q x)
  ticks_more zero le = ap (behind c q) (omega arith)
  ticks_more (suc j) le =
      let line = turn.line in
      let next : suc (x - suc j) ≡ x - j = omega arith in
      let width : c.remains q (x - suc j) - c.remains q (x - j) ≡ piece.slope =
      omega (arith, line.on j (omega arith), line.on (suc j) le, mul-add piece.slope j 1) in
      behind_tick c q (x - suc j) (omega arith) ∙ rw (next, width, ticks_more j (omega arith))

  all_more : behind c q (x - piece.run.0) ≡ with_run piece.slope piece.run.0 (behind c q x)
  all_more = ticks_more piece.run.0 (omega arith)

  -- so it makes a new pair
  opened :
      (0 < length (behind c q x) → piece.slope ≡ front (behind c q x) → ⊥)
      → behind c q (x - piece.run.0) ≡ record { width = piece.slope; duration = piece.run.0 } ∷ behind c q x
  opened other = all_more ∙ opens piece.slope piece.run.0 (behind c q x) turn.line.some other

  -- or lengthens the first
  longer :
      0 < length (behind c q x) → piece.slope ≡ front (behind c q x)
      → behind c q (x - piece.run.0)
      ≡ record { width = front (behind c q x); duration = lasts (behind c q x) + piece.run.0 } ∷ drop 1 (behind c q x)
  longer some same = all_more ∙ lengthens piece.slope piece.run.0 (behind c q x) some same

  pub slope_fits : Limited c → q ≤ largest_part → piece.slope < short_word
  slope_fits limits low =
      omega (arith, turn.line.on 1 (omega arith), remains_most q limits.lawful (x - 1), volume_fits low limits.volume)

  -- a short word holds the run, also added to the first pair
  pub run_fits : Limited c → q ≤ largest_part → lasts (behind c q x) + piece.run.0 < short_word
  run_fits limits low = omega (arith, behind_lasts c q x turn.within, volume_fits low limits.length)

-- Counting

-- the pairs so far, and the width of the first
pub record Counted (c : Curve) (q x pairs first : ℕ) : Type 0 where
  pub count : pairs ≡ length (behind c q x)
  pub width : first ≡ front (behind c q x)

pub none_counted : {c : Curve} {q x : ℕ} → x ≡ q * c.length → Counted c q x 0 0
none_counted {c} {q} e = let none = sym (behind_none c q e) in record { count = ap length none; width = ap front none }

pub all_counted : {c : Curve} {q x pairs first : ℕ} → Counted c q x pairs first → x ≡ 0 → pairs ≡ length (layers c q)
all_counted {c} {q} counted e = counted.count ∙ ap length (behind_all c q e)

module _
    {c : Curve} {q x pairs first : ℕ} {piece : Piece} (turn : Turn c q x piece) (counted : Counted c q x pairs first) where
  pub one_new : (0 < pairs → piece.slope ≡ first → ⊥) → Counted c q (x - piece.run.0) (pairs + 1) piece.slope
  one_new other =
      let new = opened turn (λ some e. other (omega arith) (e ∙ sym counted.width)) in
      record { count = omega (arith, ap length new); width = sym (ap front new) }

  pub one_longer : 0 < pairs → piece.slope ≡ first → Counted c q (x - piece.run.0) pairs first
  one_longer some e =
      let same = longer turn (omega arith) (e ∙ counted.width) in
      record {
        count = omega (arith, ap length same, length-drop 1 (behind c q x));
        width = counted.width ∙ sym (ap front same);
      }

-- Writing

-- the second word after a part p of a table
middle : (p : List ℕ) (a b : ℕ) (r : List ℕ) (n v : ℕ) → length p ≡ n → set (p ++ a ∷ b ∷ r) (n + 1) v ≡ p ++ a ∷ v ∷ r
middle p a b r n v e =
    simp append_assoc at (set_at (p ++ a ∷ []) b r v (n + 1) (omega (arith, length-append p (a ∷ []))))

-- the last pairs stand at their places, from `at` on; the words before and behind are the old ones
pub record Written (old : List ℕ) (pairs at : ℕ) (ls : List Layer) (table : List ℕ) : Type 0 where
  pub count : at + length ls ≡ pairs
  pub kept : length table ≡ length old
  pub words : table ≡ take (2 * at) old ++ (as_words ls ++ drop (2 * pairs) old)

pub none_written : (old : List ℕ) (pairs : ℕ) {ls : List Layer} → ls ≡ [] → Written old pairs pairs ls old
none_written old pairs e =
    record { count = omega (arith, ap length e); kept = refl; words = rw e (sym (take-append-drop (2 * pairs) old)) }

pub all_written :
    {old table : List ℕ} {pairs at : ℕ} {ls all : List Layer} → Written old pairs at ls table → ls ≡ all → pairs ≡ length all
    → table ≡ as_words all ++ drop (2 * pairs) old
all_written {old} {pairs = pairs} {at} {ls} written same count =
    let first : 2 * at ≡ 0 = omega (arith, ap length same) in
    written.words ∙ ap (λ k. take k old ++ (as_words ls ++ drop (2 * pairs) old)) first
    ∙ ap (λ k. as_words k ++ drop (2 * pairs) old) same

first_words : (ls : List Layer) → 0 < length ls → as_words ls ≡ front ls ∷ lasts ls ∷ as_words (drop 1 ls)
first_words [] some = absurd (omega arith)
first_words (l ∷ ls) some = refl

module _
    {c : Curve} {q x : ℕ} {piece : Piece} (turn : Turn c q x piece) {old table : List ℕ} {pairs at : ℕ}
    (room : 2 * pairs ≤ length old) (written : Written old pairs at (behind c q x) table) where
  -- the pairs that stand there
  abbrev ls : List Layer
  ls = behind c q x

  before : length (take (2 * at) old) ≡ 2 * at
  before = length-take-le (2 * at) old (omega arith)

  abbrev later : List ℕ
  later = as_words (drop 1 ls) ++ drop (2 * pairs) old

  split : 0 < length ls → table ≡ take (2 * at) old ++ front ls ∷ lasts ls ∷ later
  split some = written.words ∙ ap (λ k. take (2 * at) old ++ (k ++ drop (2 * pairs) old)) (first_words ls some)

  front_read : 0 < length ls → get_or table (2 * at) 0 ≡ front ls
  front_read some =
      ap (λ t. get_or t (2 * at) 0) (split some) ∙ get_or_at (take (2 * at) old) (front ls) (lasts ls ∷ later) 0 (2 * at) before

  lasts_read : 0 < length ls → get_or table (2 * at + 1) 0 ≡ lasts ls
  lasts_read some =
      ap (λ t. get_or t (2 * at + 1) 0) (split some)
      ∙ (rw before at (get_or-append-add (take (2 * at) old) (front ls ∷ lasts ls ∷ later) 1 0))

  pub longer_fits : Limited c → q ≤ largest_part → at < pairs → get_or table (2 * at + 1) 0 + piece.run.0 < short_word
  longer_fits limits low some = omega (arith, lasts_read (omega arith), run_fits turn limits low)

  pub pair_longer :
      at < pairs → get_or table (2 * at) 0 ≡ piece.slope
      → Written old pairs at (behind c q (x - piece.run.0)) (set table (2 * at + 1) (get_or table (2 * at + 1) 0 + piece.run.0))
  pair_longer low same =
      let some : 0 < length ls = omega arith in
      let made = longer turn some (sym same ∙ front_read some) in
      record {
        count = omega (arith, ap length made, length-drop 1 ls);
        kept = length-set table (2 * at + 1) (get_or table (2 * at + 1) 0 + piece.run.0) ∙ written.kept;
        words = rw (made, lasts_read some, split some)
            (middle (take (2 * at) old) (front ls) (lasts ls) later (2 * at) (lasts ls + piece.run.0) before);
      }

  module _ (other : at < pairs → get_or table (2 * at) 0 ≡ piece.slope → ⊥) where
    new : behind c q (x - piece.run.0) ≡ record { width = piece.slope; duration = piece.run.0 } ∷ ls
    new = opened turn (λ some same. other (omega arith) (front_read some ∙ sym same))

    pub place_left : pairs ≡ length (layers c q) → 0 < at
    place_left all = omega (arith, ap length new, behind_fewer c q (x - piece.run.0) all)

    pub pair_new :
        {a : ℕ} → at ≡ suc a
        → Written old pairs a (behind c q (x - piece.run.0)) (set (set table (2 * a) piece.slope) (2 * a + 1) piece.run.0)
    pair_new {a} next =
        let w = piece.slope in
        let n = piece.run.0 in
        let rest = as_words ls ++ drop (2 * pairs) old in
        let ahead : take (2 * a) table ≡ take (2 * a) old =
        ap (take (2 * a)) written.words
        ∙ take-append-le (2 * a) (take (2 * at) old) rest (omega (arith, before))
        ∙ take-take (2 * a) (2 * at) old (omega arith) in
        let back : drop (2 * a + 2) table ≡ rest =
        ap (drop (2 * a + 2)) written.words ∙ drop_at (take (2 * at) old) rest (2 * a + 2) (omega (arith, before)) in
        record {
          count = omega (arith, ap length new);
          kept = length-set (set table (2 * a) w) (2 * a + 1) n ∙ length-set table (2 * a) w ∙ written.kept;
          words = rw (new, add-one) (sets-eq (w ∷ n ∷ []) table (2 * a) (omega arith) ∙ rw (append_assoc, ahead, back));
        }

-- The last tick of a task at a speed fits its word.
pub ticks_fit : (chart : Chart) (speed : Speed) → SpeedInRange speed → speed.q * chart.figures.length.0 < word
unfolding table_curve
ticks_fit chart speed range = widened (volume_fits (speed_kept speed.p speed.q range).2 chart.sheet.curve.length)
