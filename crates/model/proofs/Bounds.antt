-- Bounds: every number that the code computes fits its word, from the limits.
use Prim.Native.Nat.{ℕ, zero, suc, ◌+◌, ◌-◌, ◌*◌, ◌%◌, ◌^◌, ◌≤◌, ◌<◌, min}
use mathlib.Core.Path.{◌≡◌, refl}
use mathlib.Core.Bool.{Bool, true, false, cond}
use mathlib.Core.List.{List, [], ◌∷◌, ◌++◌}
use native.Mathlib.Nat.{le_trans, lt_of_le_of_lt, lt_trans, mul-le-mul, mul-le-mul_left, mul-le-mul_right, mul-add, sub-le, min-le_left, div-le_self}
use native.Mathlib.Omega.{arith}
use lib.Dec.{eqb, lit<, lit≤}
use lib.ListN.{length, get_or}
use Rattle.model.specs.Limits.{most_tasks, most_vertices, longest_job, longest_period, most_processors, largest_part, most_cycle, most_tick, largest_volume}
use Rattle.model.specs.Range.{sum, most, only}
use Rattle.model.specs.Graph.{size}
use Rattle.model.specs.Realization.{waits_for, Task, time, Way, present, finish, endings, remaining, work, span, rdem, volume, len}
use Rattle.model.specs.Curve.{Curve, curve_of, part, demand, total, bound, divisor, multiple}
use Rattle.model.specs.Layers.{Layer, widths, with_tick, joined, layers}
use Rattle.model.specs.Lawful.{Lawful, Limited}
use Rattle.model.proofs.Ranges.{only_le, sum_le, most_le, length_listed}
use Rattle.model.proofs.Lists.{each_weaken, each_listed, Each}
use Rattle.model.proofs.Ways.{ways_within}
use Rattle.model.proofs.Easing.{remains_most}
use Rattle.model.proofs.Demand.{part_is}
use Rattle.model.proofs.Readable.{Readable}

-- a period takes at least one tick, so by tick x at most x periods are over, and one is broken
abbrev pub largest_demand : ℕ
largest_demand = largest_part * largest_volume * (most_tick + 1)

abbrev pub word : ℕ
word = 2 ^ 64

abbrev pub short_word : ℕ
short_word = 2 ^ 32

-- what fits a short word fits a word
pub widened : {a : ℕ} → a < short_word → a < word
widened h = lt_trans h (lit< tt)

-- the last tick that demand takes is the largest p times the longest cycle
pub last_tick_lem : largest_part * most_cycle ≡ most_tick
last_tick_lem = refl

-- Two factors within their limits have a product within the product of the limits.
pub product_fits : {a b most_a most_b k : ℕ} → a ≤ most_a → b ≤ most_b → most_a * most_b < k → a * b < k
product_fits ha hb h = lt_of_le_of_lt (mul-le-mul ha hb) h

-- Lists

-- a list whose elements are at most k, with one more that is
get_d_snoc_le :
    (l : List ℕ) (a k : ℕ) → ((i : ℕ) → get_or l i 0 ≤ k) → a ≤ k → (v : ℕ) → get_or (l ++ a ∷ []) v 0 ≤ k
get_d_snoc_le [] a k h le zero = le
get_d_snoc_le [] a k h le (suc v) = omega arith
get_d_snoc_le (b ∷ l) a k h le zero = h 0
get_d_snoc_le (b ∷ l) a k h le (suc v) = get_d_snoc_le l a k (λ i. h (suc i)) le v

-- Tasks

pub record Sized (t : Task) : Type 0 where
  pub small : size t.shape ≤ most_vertices
  pub short : (v : ℕ) → time t v ≤ longest_job

pub sized : (t : Task) → Readable t → Sized t
sized t r = record { small = r.small; short = r.short }

-- weights that are no more than q times the job times sum up to no more than q times the largest volume
pub shares_within :
    (t : Task) → Sized t → (q : ℕ) (f : ℕ → ℕ) → ((v : ℕ) → v < size t.shape → f v ≤ q * time t v)
    → sum (size t.shape) f ≤ q * largest_volume
shares_within t s q f h =
    let each = sum_le (size t.shape) (q * longest_job) f (λ v l. le_trans (h v l) (mul-le-mul_left q (s.short v))) in
    let all = mul-le-mul_right (q * longest_job) s.small in
    omega arith

-- no vertex ends later than if all ran one after another
pub finish_le :
    (before : ℕ → ℕ → Bool) (cost : ℕ → ℕ) (k v : ℕ) → get_or (finish before cost k) v 0 ≤ sum k cost
finish_le before cost zero v = omega arith
finish_le before cost (suc k) v =
    let ended = finish before cost k in
    let so_far : ((i : ℕ) → get_or ended i 0 ≤ sum k cost) = finish_le before cost k in
    let last = most_le k (sum k cost) (λ u. only (before u k) (get_or ended u 0))
    (λ u l. le_trans (only_le (before u k) (get_or ended u 0)) (so_far u)) in
    get_d_snoc_le ended (most k (λ u. only (before u k) (get_or ended u 0)) + cost k) (sum k cost + cost k)
    (λ i. let e = so_far i in omega arith) (omega arith) v

-- the ends of a task, whoever waits for whom
pub finish_within :
    (t : Task) → Sized t → (q : ℕ) (before : ℕ → ℕ → Bool) (cost : ℕ → ℕ)
    → ((v : ℕ) → v < size t.shape → cost v ≤ q * time t v)
    → (v : ℕ) → get_or (finish before cost (size t.shape)) v 0 ≤ q * largest_volume
finish_within t s q before cost h v =
    le_trans (finish_le before cost (size t.shape) v) (shares_within t s q cost h)

-- the latest ends, at speed 1/1
pub latest_within :
    (t : Task) → Sized t → (before : ℕ → ℕ → Bool) (v : ℕ)
    → get_or (finish before (time t) (size t.shape)) v 0 ≤ largest_volume
latest_within t s before v = finish_within t s 1 before (time t) (λ u l. omega arith) v

-- one realization
pub work_within : (t : Task) → Sized t → (w : Way) → work t w ≤ largest_volume
unfolding work
work_within t s w =
    shares_within t s 1 (λ v. only (present t.shape w v) (time t v))
    (λ v l. let o = only_le (present t.shape w v) (time t v) in omega arith)

pub span_within : (t : Task) → Sized t → (w : Way) → span t w ≤ largest_volume
unfolding span endings
span_within t s w =
    let ended = endings t 1 w in
    most_le (size t.shape) largest_volume (λ v. only (present t.shape w v) (get_or ended v 0))
    (λ v l.
    le_trans (only_le (present t.shape w v) (get_or ended v 0))
    (finish_within t s 1 (waits_for t.shape w) (λ v. 1 * time t v) (λ u l. omega arith) v))

pub remaining_within : (t : Task) → Sized t → (q : ℕ) (w : Way) (x : ℕ) → remaining t q w x ≤ q * largest_volume
unfolding remaining
remaining_within t s q w x =
    let ended = endings t q w in
    let left : (ℕ → ℕ) = λ v. min (q * time t v) (get_or ended v 0 - x) in
    shares_within t s q (λ v. only (present t.shape w v) (left v))
    (λ v l.
    le_trans (only_le (present t.shape w v) (left v)) (min-le_left (q * time t v) (get_or ended v 0 - x)))

-- and so the largest over all of them
pub volume_within : (t : Task) → Sized t → volume t ≤ largest_volume
unfolding volume
volume_within t s = ways_within t.shape (λ w. work t w) largest_volume (λ w h. work_within t s w)

pub len_within : (t : Task) → Sized t → len t ≤ largest_volume
unfolding len
len_within t s = ways_within t.shape (λ w. span t w) largest_volume (λ w h. span_within t s w)

pub rdem_within : (t : Task) → Sized t → (q x : ℕ) → rdem t q x ≤ q * largest_volume
unfolding rdem
rdem_within t s q x =
    ways_within t.shape (λ w. remaining t q w x) (q * largest_volume) (λ w h. remaining_within t s q w x)

-- Curves

pub limited : (t : Task) → Readable t → Lawful (curve_of t) → Limited (curve_of t)
unfolding curve_of
limited t r l =
    let s = sized t r in
    record { lawful = l; period = r.period_high; length = len_within t s; volume = volume_within t s }

pub deadline_within : (c : Curve) → Limited c → c.deadline ≤ longest_period
deadline_within c h = le_trans h.lawful.constrained h.period

-- the broken period holds at most one volume
pub part_le : (p q : ℕ) (c : Curve) (r : ℕ) → Lawful c → part p q c r ≤ q * c.volume
part_le p q c r h = rw (part_is p q h r) (remains_most q h (p * c.deadline - r))

-- at most one volume for each tick, and one more
pub demand_le : (p q : ℕ) (c : Curve) (x : ℕ) → Lawful c → demand p q c x ≤ q * c.volume * (x + 1)
unfolding demand
demand_le p q c x h =
    let whole = mul-le-mul_left (q * c.volume) (div-le_self x (p * c.period)) in
    let broken = part_le p q c (x % (p * c.period)) h in
    omega (arith, mul-add (q * c.volume) x 1)

pub demand_within :
    (p q : ℕ) (c : Curve) (x : ℕ) → Lawful c → c.volume ≤ largest_volume → q ≤ largest_part → x ≤ most_tick
    → demand p q c x ≤ largest_demand
demand_within p q c x h light low tick =
    let ticks : x + 1 ≤ most_tick + 1 = omega arith in
    le_trans (demand_le p q c x h) (mul-le-mul (mul-le-mul low light) ticks)

-- each task of a set adds at most one largest demand
total_le :
    (p q : ℕ) (cs : List Curve) (x : ℕ) → Each Limited cs → q ≤ largest_part → x ≤ most_tick
    → total p q cs x ≤ length cs * largest_demand
total_le p q [] x h low tick = omega arith
total_le p q (c ∷ cs) x h low tick =
    let here = demand_within p q c x h.0.lawful h.0.volume low tick in
    let rest = total_le p q cs x h.1 low tick in
    omega arith

pub total_within :
    (p q : ℕ) (cs : List Curve) (x : ℕ) → Each Limited cs → length cs ≤ most_tasks → q ≤ largest_part → x ≤ most_tick
    → total p q cs x ≤ most_tasks * largest_demand
total_within p q cs x h few low tick =
    le_trans (total_le p q cs x h low tick) (mul-le-mul_right largest_demand few)

-- the two sides of the test for an overrun
pub total_fits :
    (p q : ℕ) (cs : List Curve) (x : ℕ) → Each Limited cs → length cs ≤ most_tasks → p ≤ largest_part → q ≤ largest_part
    → x ≤ most_tick → p * total p q cs x < word
total_fits p q cs x h few p-low q-low tick =
    product_fits p-low (total_within p q cs x h few q-low tick) (lit< tt)

pub bound_within : (m p q : ℕ) → m ≤ most_processors → q ≤ largest_part → bound m p q ≤ most_processors * largest_part
bound_within m p q few low = le_trans (sub-le (m * q) ((m - 1) * p)) (mul-le-mul few low)

pub bound_fits :
    (m p q x : ℕ) → m ≤ most_processors → q ≤ largest_part → x ≤ most_tick → bound m p q * x < word
bound_fits m p q x few low tick = product_fits (bound_within m p q few low) tick (lit< tt)

-- Times and works in ticks

-- p times a deadline or period
pub period_fits : {p d : ℕ} → p ≤ largest_part → d ≤ longest_period → p * d < word
period_fits low long = product_fits low long (lit< tt)

-- q times a length or volume, and so a layer's width and duration
pub volume_fits : {q v : ℕ} → q ≤ largest_part → v ≤ largest_volume → q * v < short_word
volume_fits low large = product_fits low large (lit< tt)

-- The cycle

-- a tick of the cycle is one that may be asked for
pub tick_within : {p h : ℕ} → p ≤ largest_part → h ≤ most_cycle → p * h ≤ most_tick
tick_within low cycle = mul-le-mul low cycle

pub multiple_le : (h d : ℕ) → multiple h d ≤ h * d
unfolding multiple
multiple_le h d = mul-le-mul_right d (div-le_self h (divisor h d))

-- the product, and so the multiple before the walk over the periods stops
pub cycle_fits : {h d : ℕ} → h ≤ most_cycle → d ≤ longest_period → h * d < word
cycle_fits cycle long = product_fits cycle long (lit< tt)

pub multiple_fits : {h d : ℕ} → h ≤ most_cycle → d ≤ longest_period → multiple h d < word
multiple_fits {h} {d} cycle long = lt_of_le_of_lt (multiple_le h d) (cycle_fits cycle long)

-- Layers

-- a layer is no wider than k and no longer than n
abbrev pub LayerWithin : ℕ → ℕ → Layer → Type 0
LayerWithin k n l = (l.width ≤ k) × (l.duration ≤ n)

with_tick_within :
    (k n w : ℕ) (ls : List Layer) → w ≤ k → Each (LayerWithin k n) ls → Each (LayerWithin k (suc n)) (with_tick w ls)
with_tick_within k n w [] narrow h = ((narrow, omega arith), tt)
with_tick_within k n w (l ∷ ls) narrow h = go (eqb w l.width)
  where
    later : (rest : List Layer) → Each (LayerWithin k n) rest → Each (LayerWithin k (suc n)) rest
    later rest =
        each_weaken (LayerWithin k n) (LayerWithin k (suc n)) rest (λ a b. (b.0, let d = b.1 in omega arith))

    go :
        (b : Bool)
        → Each (LayerWithin k (suc n))
        (cond b (record { width = w; duration = suc l.duration } ∷ ls) (record { width = w; duration = 1 } ∷ l ∷ ls))
    go true = ((narrow, let d = h.0.1 in omega arith), later ls h.1)
    go false = ((narrow, omega arith), later (l ∷ ls) h)

-- layers are no wider than the widest tick, and no longer than the ticks
pub joined_within :
    (k : ℕ) (ws : List ℕ) → Each (λ w. w ≤ k) ws → Each (LayerWithin k (length ws)) (joined ws)
joined_within k [] h = tt
joined_within k (w ∷ ws) h = with_tick_within k (length ws) w (joined ws) h.0 (joined_within k ws h.1)

-- the layers of a task
pub layers_within : (c : Curve) (q : ℕ) → Limited c → Each (LayerWithin (q * largest_volume) (q * largest_volume)) (layers c q)
unfolding layers widths
layers_within c q h =
    let fall : (ℕ → ℕ) = λ x. c.remains q x - c.remains q (suc x) in
    let narrow = each_listed (λ w. w ≤ q * largest_volume) (q * c.length) fall
    (λ x l.
    le_trans (sub-le (c.remains q x) (c.remains q (suc x)))
    (le_trans (remains_most q h.lawful x) (mul-le-mul_left q h.volume))) in
    let ticks = length_listed (q * c.length) fall in
    let long = mul-le-mul_left q h.length in
    each_weaken (LayerWithin (q * largest_volume) (length (widths c q))) (LayerWithin (q * largest_volume) (q * largest_volume))
    (layers c q) (λ l b. (b.0, let d = b.1 in omega arith)) (joined_within (q * largest_volume) (widths c q) narrow)

-- widths and durations fit the words of a table
pub layers_fit :
    (c : Curve) (q : ℕ) → Limited c → q ≤ largest_part → Each (λ l. (l.width < short_word) × (l.duration < short_word)) (layers c q)
layers_fit c q h low =
    let fits : q * largest_volume < short_word = volume_fits low (lit≤ tt) in
    each_weaken (LayerWithin (q * largest_volume) (q * largest_volume)) (λ l. (l.width < short_word) × (l.duration < short_word))
    (layers c q) (λ l b. (lt_of_le_of_lt b.0 fits, lt_of_le_of_lt b.1 fits)) (layers_within c q h)

-- there are no more pairs than ticks
with_tick_length : (w : ℕ) (ls : List Layer) → length (with_tick w ls) ≤ suc (length ls)
with_tick_length w [] = omega arith
with_tick_length w (l ∷ ls) = go (eqb w l.width)
  where
    go :
        (b : Bool)
        → length (cond b (record { width = w; duration = suc l.duration } ∷ ls) (record { width = w; duration = 1 } ∷ l ∷ ls))
        ≤ suc (suc (length ls))
    go true = omega arith
    go false = omega arith

joined_length : (ws : List ℕ) → length (joined ws) ≤ length ws
joined_length [] = omega arith
joined_length (w ∷ ws) = let r = joined_length ws in let s = with_tick_length w (joined ws) in omega arith

pub pairs_within : (c : Curve) (q : ℕ) → Limited c → length (layers c q) ≤ q * largest_volume
unfolding layers widths
pairs_within c q h =
    let ticks = length_listed (q * c.length) (λ x. c.remains q x - c.remains q (suc x)) in
    let long = mul-le-mul_left q h.length in
    let few = joined_length (widths c q) in
    omega arith
