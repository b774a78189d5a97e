-- The right moment: remaining work is the largest over the ways of a sum of fixed shares, each fixed by the latest end of its
-- vertex, and the length is the latest end of the last vertex.
use Prim.Native.Nat.{ℕ, suc, ◌+◌, ◌-◌, ◌*◌, ◌≤◌, ◌<◌, min}
use mathlib.Core.Path.{◌≡◌, refl, sym, ◌∙◌, ap, subst}
use mathlib.Core.Bool.{true, false}
use mathlib.Core.Logic.{inl, inr}
use native.Mathlib.Nat.{le_antisymm, le_trans}
use native.Mathlib.Omega.{arith}
use lib.Dec.{ltb, leb}
use lib.ListN.{get_or}
use borrow.Author.Tests.{ltb-true, ltb-false, leb-true, leb-false}
use Rattle.model.specs.Range.{every, only, sum, most}
use Rattle.model.specs.Graph.{Shape, size, starts, mate, edge, arms, in_arm}
use Rattle.model.specs.Realization.{waits_for, Task, time, Way, taken, options, ways, present, finish, endings, remaining, span, largest, rdem, len}
use Rattle.model.proofs.Ranges.{and_left, only_within, most_only, and_both, not_both, decided, only_true, only_mono, below_suc, sum_mono, most_at_lem, most_le, most_found}
use Rattle.model.proofs.Ways.{IsWay, largest_mono, most_of_ways, ways_within, way_by, way_by_is, way_by_taken}
use Rattle.model.proofs.Arms.{Arms, Closing}
use Rattle.model.proofs.Presence.{present_taken, absent_untaken, taken_present, options_start, options_plain, taken_arm_lem}
use Rattle.model.proofs.Induction.{from_earlier, from_later}
use Rattle.model.proofs.Finish.{finish_at, finish_mono, finish_scale}

-- no arm holds the last vertex
arm_not_last : (t : Shape) → Arms t → (s i v : ℕ) → starts t s ≡ true → in_arm t s i v ≡ true → suc v < size t
arm_not_last t a s i v st inside =
    let c = a.closing s i st (a.arm_counted s i v inside) in
    elim (c.goes v inside) [
      | inl e ↦
          let up = a.up c.at (mate t s) c.leads in
          let low = a.mate_below s st in
          omega arith
      | inr on ↦ let up = a.up v on.0 on.1 in let low = a.inside v on.0 on.1 in omega arith
    ]

-- where the end of a choice is present, so is the vertex that closes the taken arm
pub closing_present :
    (t : Shape) → Arms t → (w : Way) (s : ℕ) → starts t s ≡ true → present t w (mate t s) ≡ true
    → (c : Closing t s (taken w s)) → present t w c.at ≡ true
closing_present t a w s st h c =
    taken_present t w c.at (λ r k str inside.
    elim (a.arm_stays r k c.at (mate t s) inside c.leads) [
      | inl e ↦
          let same = a.mate_once s r st str e in
          elim c.stands [
            | inl mine ↦
                a.apart r k (taken w r) c.at str inside
                (subst (λ j. in_arm t j (taken w j) c.at ≡ true) same mine)
            | inr bare ↦ let up = a.arm_above r k c.at inside in let z = bare.0 in absurd (omega arith)
          ]
      | inr stays ↦ present_taken t a w (mate t s) r k h str stays
    ])

-- latest ends

-- the end of v, in time units, if every vertex that it waits for were present
unfoldable pub latest : Task → ℕ → ℕ
latest t v = get_or (finish (edge t.shape) (time t) (size t.shape)) v 0

-- what v may still have to run at tick x
unfoldable pub share : Task → ℕ → ℕ → ℕ → ℕ
share t q x v = min (q * time t v) (q * latest t v - x)

-- the latest end of v in ticks
abbrev due : Task → ℕ → ℕ → ℕ
due t q v = get_or (finish (edge t.shape) (λ u. q * time t u) (size t.shape)) v 0

-- the latest start of v in ticks
abbrev awaited : Task → ℕ → ℕ → ℕ
awaited t q v = most v (λ u. only (edge t.shape u v) (due t q u))

-- the latest end among the vertices of arm i of s
abbrev arm_due : Task → ℕ → ℕ → ℕ → ℕ
arm_due t q s i = most (size t.shape) (λ v. only (in_arm t.shape s i v) (due t q v))

-- the start of v in a way
abbrev begun : Task → ℕ → Way → ℕ → ℕ
begun t q w v = most v (λ u. only (waits_for t.shape w u v) (get_or (endings t q w) u 0))

due_is : (t : Task) (q v : ℕ) → due t q v ≡ q * latest t v
unfolding latest
due_is t q v = finish_scale (edge t.shape) (time t) q (size t.shape) v

due_at : (t : Task) (q v : ℕ) → v < size t.shape → due t q v ≡ awaited t q v + q * time t v
due_at t q v lt = finish_at (edge t.shape) (λ u. q * time t u) (size t.shape) v lt

ends_at : (t : Task) (q : ℕ) (w : Way) (v : ℕ) → v < size t.shape → get_or (endings t q w) v 0 ≡ begun t q w v + q * time t v
unfolding endings
ends_at t q w v lt = finish_at _ (λ u. q * time t u) (size t.shape) v lt

-- no way ends a vertex later than its latest end: present predecessors are some of all
ends_by : (t : Task) (q : ℕ) (w : Way) (v : ℕ) → get_or (endings t q w) v 0 ≤ due t q v
unfolding endings
ends_by t q w v =
    finish_mono _ (edge t.shape) (λ u. q * time t u) (λ u. q * time t u) (size t.shape)
    (λ u v h. and_left (edge t.shape u v) (present t.shape w u) h) (λ u. omega arith) v

module _ (t : Task) (a : Arms t.shape) (q : ℕ) where
  -- latest ends rise along an edge
  due_rises : (u v : ℕ) → edge t.shape u v ≡ true → due t q u ≤ due t q v
  due_rises u v e =
      let at = due_at t q v (a.inside u v e) in
      let part = most_only v (λ z. edge t.shape z v) (due t q) u (a.up u v e) e in
      omega arith

  -- an arm ends no sooner than each of its vertices
  arm_within : (s i v : ℕ) → in_arm t.shape s i v ≡ true → due t q v ≤ arm_due t q s i
  arm_within s i v inside = most_only (size t.shape) (in_arm t.shape s i) (due t q) v (a.arm_below s i v inside) inside

  -- no vertex of an arm has a later end than the one that closes it
  arm_closes : (s i : ℕ) → (c : Closing t.shape s i) → arm_due t q s i ≤ due t q c.at
  arm_closes s i c =
      most_le (size t.shape) (due t q c.at) _ (λ v lt. only_within (in_arm t.shape s i v) (climb v lt))
    where
      climb : (v : ℕ) → v < size t.shape → in_arm t.shape s i v ≡ true → due t q v ≤ due t q c.at
      climb =
          from_later (λ v. in_arm t.shape s i v ≡ true → due t q v ≤ due t q c.at) (size t.shape) (λ v lt above inside.
          elim (c.goes v inside) [
            | inl e ↦ subst (λ z. due t q v ≤ due t q z) e (omega arith)
            | inr on ↦
                le_trans (due_rises v on.0 on.1)
                (above on.0 (a.up v on.0 on.1) (a.inside v on.0 on.1) on.2)
          ])

  -- the last vertex ends last
  due_last : (v : ℕ) → v < size t.shape → due t q v ≤ due t q (size t.shape - 1)
  due_last =
      from_later (λ v. due t q v ≤ due t q (size t.shape - 1)) (size t.shape) (λ v lt above.
      elim (below_suc {i = v} {n = size t.shape - 1} (omega arith)) [
        | inl e ↦ subst (λ z. due t q v ≤ due t q z) e (omega arith)
        | inr l ↦
            let on = a.out v (omega arith) in
            le_trans (due_rises v on.0 on.1)
            (above on.0 (a.up v on.0 on.1) (a.inside v on.0 on.1))
      ])

-- the mended way

-- One of k arms for another, where arm i ends by f i: an arm is left only if it ends by the tick x, and the arm that is taken
-- ends after x, or else no sooner than any.
record Mended (k : ℕ) (f : ℕ → ℕ) (x from to : ℕ) : Type 0 where
  left : (to ≡ from → ⊥) → f from ≤ x
  lasts : (i : ℕ) → i < k → min x (f i) ≤ f to

-- there is such an arm
mended_arm : (k : ℕ) (f : ℕ → ℕ) (x from : ℕ) → from < k → (to : ℕ) × (to < k) × Mended k f x from to
mended_arm k f x from lt =
    elim (decided (ltb x (f from))) [
      | inl after ↦
          (from, lt, record { left = λ ne. absurd (ne refl); lasts = λ i below. omega (arith, ltb-true x (f from) after) })
      | inr by ↦
          let last = most_found k f (omega arith) in (
            last.0,
            last.1,
            record {
              left = λ ne. ltb-false x (f from) by;
              lasts = λ i below. let top = most_at_lem k f i below in let e = last.2 in omega arith;
            },
          )
    ]

-- a way that takes such an arm at every start, in place of the one that w takes
mended_way :
    (t : Task) → Arms t.shape → (q x : ℕ) (w : Way) → IsWay t.shape w
    → (m : Way) × IsWay t.shape m
    × ((s : ℕ) → starts t.shape s ≡ true → Mended (arms t.shape s) (arm_due t q s) x (taken w s) (taken m s))
mended_way t a q x w h = (
  way_by t.shape (λ s. (choice s).0),
  way_by_is t.shape (λ s. (choice s).0) (λ s lt. (choice s).1),
  λ s st.
      subst (λ j. Mended (arms t.shape s) (arm_due t q s) x (taken w s) j)
      (sym (way_by_taken t.shape (λ s. (choice s).0) s (a.start_below s st))) ((choice s).2 st),
)
  where
    choice :
        (s : ℕ)
        → (j : ℕ) × (j < options t.shape s)
        × (starts t.shape s ≡ true → Mended (arms t.shape s) (arm_due t q s) x (taken w s) j)
    choice s =
        elim (decided (starts t.shape s)) [
          | inl st ↦
              let to = mended_arm (arms t.shape s) (arm_due t q s) x (taken w s) (taken_arm_lem t.shape a w h s st) in
              (to.0, subst (λ k. to.0 < k) (sym (options_start t.shape s st)) to.1, λ again. to.2)
          | inr plain ↦
              (0, (let e = options_plain t.shape s plain in omega arith), λ st. absurd (not_both (starts t.shape s) st plain))
        ]

-- what a way m owes to being w mended at tick x
module _ (t : Task) (a : Arms t.shape) (q x : ℕ) (w m : Way)
    (mended : (s : ℕ) → starts t.shape s ≡ true → Mended (arms t.shape s) (arm_due t q s) x (taken w s) (taken m s)) where
  -- whoever leaves had nothing left to run
  leaves_done :
      (v : ℕ) → present t.shape w v ≡ true → present t.shape m v ≡ false → due t q v ≤ x
  leaves_done v was gone =
      let r = absent_untaken t.shape m v gone in
      let s = r.0 in
      let i = r.1 in
      let old = present_taken t.shape a w v s i was r.2 r.3 in
      let done = (mended s r.2).left (λ e. r.4 (old ∙ sym e)) in
      let part = arm_within t a q s i v r.3 in
      let same = ap (arm_due t q s) old in
      omega arith

  -- a vertex starts no sooner than a present predecessor ends
  starts_after :
      (u v : ℕ) → present t.shape m u ≡ true → edge t.shape u v ≡ true → get_or (endings t q m) u 0 ≤ begun t q m v
  starts_after u v here e =
      most_only v (λ z. waits_for t.shape m z v) (λ z. get_or (endings t q m) z 0) u (a.up u v e)
      (and_both (edge t.shape u v) (present t.shape m u) e here)

  -- v starts at its latest start, or at x at the soonest
  abbrev OnTime : ℕ → Type 0
  OnTime v = v < size t.shape → present t.shape m v ≡ true → min x (awaited t q v) ≤ begun t q m v

  -- so its successors start at its latest end, or at x at the soonest
  ends_on_time :
      (u v : ℕ) → OnTime u → present t.shape m u ≡ true → edge t.shape u v ≡ true
      → min x (due t q u) ≤ begun t q m v
  ends_on_time u v on here e =
      let up = a.up u v e in
      let low = a.inside u v e in
      let early = on (omega arith) here in
      let after = starts_after u v here e in
      omega (arith, due_at t q u (omega arith), ends_at t q m u (omega arith))

  -- the same where the predecessor is absent: v then ends the choice, and waits for the arm that is taken in its place
  waits_instead :
      IsWay t.shape m → (u v : ℕ) → ((z : ℕ) → z < v → OnTime z) → present t.shape m v ≡ true
      → present t.shape m u ≡ false → edge t.shape u v ≡ true → min x (due t q u) ≤ begun t q m v
  waits_instead h u v before here gone e =
      let r = absent_untaken t.shape m u gone in
      let s = r.0 in
      let i = r.1 in
      elim (a.arm_stays s i u v r.3 e) [
        | inl joins ↦
            let c = a.closing s (taken m s) r.2 (taken_arm_lem t.shape a m h s r.2) in
            let leads = subst (λ z. edge t.shape c.at z ≡ true) (sym joins) c.leads in
            let stands = closing_present t.shape a m s r.2 (subst (λ z. present t.shape m z ≡ true) joins here) c in
            let instead = ends_on_time c.at v (before c.at (a.up c.at v leads)) stands leads in
            let lasts = (mended s r.2).lasts i (a.arm_counted s i u r.3) in
            let closes = arm_closes t a q s (taken m s) c in
            let part = arm_within t a q s i u r.3 in
            omega arith
        | inr stays ↦ absurd (r.4 (present_taken t.shape a m v s i here r.2 stays))
      ]

  -- every vertex of a mended way is on time
  on_time : IsWay t.shape m → (v : ℕ) → OnTime v
  on_time h =
      from_earlier OnTime (λ v before lt here.
      elim (decided (leb x (begun t q m v))) [
        | inl late ↦ omega (arith, leb-true x (begun t q m v) late)
        | inr soon ↦
            let all = most_le v (begun t q m v) (λ u. only (edge t.shape u v) (due t q u)) (λ u l.
            only_within (edge t.shape u v) (λ e.
            omega (arith, waits h u v before here e, leb-false x (begun t q m v) soon))) in
            omega arith
      ])
    where
      waits :
          IsWay t.shape m → (u v : ℕ) → ((z : ℕ) → z < v → OnTime z) → present t.shape m v ≡ true
          → edge t.shape u v ≡ true → min x (due t q u) ≤ begun t q m v
      waits h u v before here e =
          elim (decided (present t.shape m u)) [
            | inl there ↦ ends_on_time u v (before u (a.up u v e)) there e
            | inr gone ↦ waits_instead h u v before here gone e
          ]

  -- so what is left to run at x in w is left to run in m
  share_left :
      IsWay t.shape m → (v : ℕ) → v < size t.shape
      → only (present t.shape w v) (share t q x v)
      ≤ only (present t.shape m v) (min (q * time t v) (get_or (endings t q m) v 0 - x))
  unfolding share
  share_left h v lt =
      only_within (present t.shape w v) (λ was.
      elim (decided (present t.shape m v)) [
        | inl here ↦
            let on = on_time h v lt here in
            rw (only_true (present t.shape m v) (min (q * time t v) (get_or (endings t q m) v 0 - x)) here)
            (omega (arith, due_is t q v, due_at t q v lt, ends_at t q m v lt))
        | inr gone ↦
            let done = leaves_done v was gone in
            omega (arith, due_is t q v)
      ])

-- the theorems

-- the shares of the vertices that are present
abbrev shares : Task → ℕ → ℕ → Way → ℕ
shares t q x w = sum (size t.shape) (λ v. only (present t.shape w v) (share t q x v))

-- no way has more left than its shares
remaining_shared : (t : Task) (q x : ℕ) (w : Way) → remaining t q w x ≤ shares t q x w
unfolding remaining share
remaining_shared t q x w =
    sum_mono (size t.shape) _ _ (λ v lt.
    let by = ends_by t q w v in
    let is = due_is t q v in
    only_mono (present t.shape w v) (omega arith))

-- the shares of a way are left in the mended one
shares_left : (t : Task) → Arms t.shape → (q x : ℕ) (w : Way) → IsWay t.shape w → shares t q x w ≤ rdem t q x
unfolding rdem remaining
shares_left t a q x w h =
    let m = mended_way t a q x w h in
    le_trans (sum_mono (size t.shape) _ _ (λ v lt. share_left t a q x w m.0 m.2 m.1 v lt))
    (most_of_ways t.shape (λ w. remaining t q w x) m.0 m.1)

-- remaining work is the largest over the ways of the shares
pub moment :
    (t : Task) → Arms t.shape → (q x : ℕ)
    → rdem t q x
    ≡ largest (ways t.shape) (λ w. sum (size t.shape) (λ v. only (present t.shape w v) (share t q x v)))
unfolding rdem
moment t a q x =
    le_antisymm (largest_mono (ways t.shape) (λ w. remaining t q w x) (shares t q x) (remaining_shared t q x))
    (ways_within t.shape (shares t q x) (rdem t q x) (shares_left t a q x))

-- a way: at each start the first arm
pub first_way : (t : Shape) → Arms t → IsWay t (way_by t (λ s. 0))
first_way t a =
    way_by_is t (λ s. 0) (λ s lt.
    elim (decided (starts t s)) [
      | inl st ↦ omega (arith, options_start t s st, a.two_arms s st)
      | inr plain ↦ omega (arith, options_plain t s plain)
    ])

-- no way ends later than the last vertex may
span_by_last :
    (t : Task) → Arms t.shape → (w : Way) → span t w ≤ due t 1 (size t.shape - 1)
unfolding span
span_by_last t a w =
    most_le (size t.shape) (due t 1 (size t.shape - 1)) _ (λ v lt.
    only_within (present t.shape w v) (λ here. le_trans (ends_by t 1 w v) (due_last t a 1 v lt)))

-- a way mended at the end of the last vertex ends with it
span_reaches : (t : Task) → Arms t.shape → 0 < size t.shape → due t 1 (size t.shape - 1) ≤ len t
unfolding len span
span_reaches t a filled =
    let last = size t.shape - 1 in
    let x = due t 1 last in
    let m = mended_way t a 1 x (way_by t.shape (λ s. 0)) (first_way t.shape a) in
    let w = m.0 in
    let low : last < size t.shape = omega arith in
    let here =
    taken_present t.shape w last (λ s i st inside.
    absurd (let room = arm_not_last t.shape a s i last st inside in omega arith)) in
    let on = on_time t a 1 x (way_by t.shape (λ s. 0)) w m.2 m.1 last low here in
    let part = most_only (size t.shape) (present t.shape w) (λ v. get_or (endings t 1 w) v 0) last low here in
    let all = most_of_ways t.shape (λ w. span t w) w m.1 in
    omega (arith, due_at t 1 last low, ends_at t 1 w last low)

-- the length is the latest end of the last vertex
pub length_is : (t : Task) → Arms t.shape → 0 < size t.shape → len t ≡ latest t (size t.shape - 1)
unfolding len
length_is t a filled =
    let within = ways_within t.shape (λ w. span t w) (due t 1 (size t.shape - 1)) (λ w h. span_by_last t a w) in
    let reaches = span_reaches t a filled in
    omega (arith, due_is t 1 (size t.shape - 1))
