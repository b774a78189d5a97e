-- The curve of a task is lawful, and an easier task has an easier curve, whatever the graph.
use Prim.Native.Nat.{ℕ, ◌-◌, ◌*◌, ◌≤◌, ◌<◌, min}
use mathlib.Core.Path.{◌≡◌, sym, ◌∙◌, ap, subst}
use mathlib.Core.Bool.{Bool, true, false}
use mathlib.Core.List.{List, map}
use native.Mathlib.Nat.{le_antisymm, mul-le-mul_left, one-mul}
use native.Mathlib.Omega.{arith}
use lib.ListN.{get_or}
use Rattle.model.specs.Range.{only}
use Rattle.model.specs.Graph.{Shape, size}
use Rattle.model.specs.Realization.{waits_for, Task, Way, time, present, finish, endings, remaining, work, span, ways, rdem, volume, len}
use Rattle.model.specs.Curve.{curve_of}
use Rattle.model.specs.Relief.{Easier, Relieved, nothing, dropped, kept}
use Rattle.model.specs.Lawful.{Lawful}
use Rattle.model.proofs.Ranges.{only_scale, only_mono, sum_ext, sum_mono, sum_scale, sum_zero, most_at_lem, most_mono}
use Rattle.model.proofs.Ways.{largest_at, largest_le, largest_mono, largest_ext, largest_scale}
use Rattle.model.proofs.Finish.{finish_at, finish_mono, finish_scale}
use Rattle.model.proofs.Easing.{Eased, EasedList, nothing, dropped, kept}

-- the end of vertex v in a realization
abbrev ending : Task → ℕ → Way → ℕ → ℕ
ending t q w v = get_or (endings t q w) v 0

-- a vertex ends no earlier than its own job takes
ending_least : (t : Task) (q : ℕ) (w : Way) (v : ℕ) → v < size t.shape → q * time t v ≤ ending t q w v
unfolding endings
ending_least t q w v lt =
    let e = finish_at (waits_for t.shape w) (λ i. q * time t i) (size t.shape) v lt in omega arith

-- at q a vertex ends q times as late as at 1
ending_scale : (t : Task) (q : ℕ) (w : Way) (v : ℕ) → ending t q w v ≡ q * ending t 1 w v
unfolding endings
ending_scale t q w v = at q ∙ ap (λ x. q * x) (sym (at 1 ∙ one-mul _))
  where
    at : (k : ℕ) → ending t k w v ≡ k * get_or (finish (waits_for t.shape w) (time t) (size t.shape)) v 0
    at k = finish_scale (waits_for t.shape w) (time t) k (size t.shape) v

-- what is left falls
remaining_falls : (t : Task) (q : ℕ) (w : Way) (x y : ℕ) → x ≤ y → remaining t q w y ≤ remaining t q w x
unfolding remaining
remaining_falls t q w x y h = sum_mono (size t.shape) _ _ (λ v l. only_mono (present t.shape w v) (omega arith))

-- at the start everything is left
remaining_whole : (t : Task) (q : ℕ) (w : Way) → remaining t q w 0 ≡ q * work t w
unfolding remaining work
remaining_whole t q w =
    sum_ext (size t.shape) _ _
    (λ v l.
    ap (λ x. only (present t.shape w v) x) (let e = ending_least t q w v l in omega arith)
    ∙ only_scale (present t.shape w v) q (time t v))
    ∙ sum_scale (size t.shape) q (λ v. only (present t.shape w v) (time t v))

-- what a vertex still has to run at x is within its end, less x
only_left : (b : Bool) (c e x : ℕ) → only b (min c (e - x)) ≤ only b e - x
only_left true c e x = omega arith
only_left false c e x = omega arith

-- once the last vertex has ended, nothing is left
remaining_over : (t : Task) (q : ℕ) (w : Way) (x : ℕ) → q * span t w ≤ x → remaining t q w x ≡ 0
unfolding remaining span
remaining_over t q w x h =
    sum_zero (size t.shape) _
    (λ v l.
    let here = present t.shape w v in
    let e = ap (λ i. only here i) (ending_scale t q w v) ∙ only_scale here q (ending t 1 w v) in
    let m = mul-le-mul_left q (most_at_lem (size t.shape) (λ i. only (present t.shape w i) (ending t 1 w i)) v l) in
    omega (arith, only_left here (q * time t v) (ending t q w v) x))

-- the curve of a task whose deadline is some tick within its period is lawful
pub curve_lawful : (t : Task) → 1 ≤ t.deadline → t.deadline ≤ t.period → Lawful (curve_of t)
unfolding curve_of rdem volume len
curve_lawful t some constrained =
    record {
      some = some;
      constrained = constrained;
      falls = λ q x y h. largest_mono (ways t.shape) _ _ (λ w. remaining_falls t q w x y h);
      whole = λ q.
          largest_ext (ways t.shape) _ _ (λ w. remaining_whole t q w)
          ∙ largest_scale (ways t.shape) q (λ w. work t w);
      over = λ q x h.
          le_antisymm
          (largest_le (ways t.shape) _ 0
          (λ w m.
          let l = mul-le-mul_left q (largest_at (ways t.shape) (λ i. span t i) w m) in
          omega (arith, remaining_over t q w x (omega arith))))
          (omega arith);
    }

-- a task's own times and dates, on another graph
abbrev reshaped : Shape → Task → Task
reshaped s u = record { mill = u.mill; deadline = u.deadline; period = u.period; shape = s; times = u.times }

-- shorter jobs on the same graph end no later
module _ (t u : Task) (shorter : (v : ℕ) → time u v ≤ time t v) where
  ending_eased : (q : ℕ) (w : Way) (v : ℕ) → ending (reshaped t.shape u) q w v ≤ ending t q w v
  unfolding endings
  ending_eased q w v =
      finish_mono (waits_for t.shape w) (waits_for t.shape w) _ _ (size t.shape) (λ a b h. h) (λ i. mul-le-mul_left q (shorter i)) v

  span_eased : (w : Way) → span (reshaped t.shape u) w ≤ span t w
  unfolding span
  span_eased w =
      most_mono (size t.shape) _ _ (λ v l. only_mono (present t.shape w v) (ending_eased 1 w v))

  work_eased : (w : Way) → work (reshaped t.shape u) w ≤ work t w
  unfolding work
  work_eased w = sum_mono (size t.shape) _ _ (λ v l. only_mono (present t.shape w v) (shorter v))

  remaining_eased : (q : ℕ) (w : Way) (x : ℕ) → remaining (reshaped t.shape u) q w x ≤ remaining t q w x
  unfolding remaining
  remaining_eased q w x =
      sum_mono (size t.shape) _ _
      (λ v l.
      only_mono (present t.shape w v)
      (let e = ending_eased q w v in let c = mul-le-mul_left q (shorter v) in omega arith))

-- an easier task has an easier curve: its graph is the same by a path, so we judge it on the old one's
pub curve_eased : (t u : Task) → Easier t u → Eased (curve_of t) (curve_of u)
unfolding curve_of rdem volume len
curve_eased t u h =
    subst (λ s. Eased (curve_of t) (curve_of (reshaped s u))) (sym h.shape)
    (record {
      deadline = h.deadline;
      period = h.period;
      length = largest_mono (ways t.shape) _ _ (λ w. span_eased t u h.times w);
      volume = largest_mono (ways t.shape) _ _ (λ w. work_eased t u h.times w);
      remains = λ q x. largest_mono (ways t.shape) _ _ (λ w. remaining_eased t u h.times q w x);
    })

-- a relieved set has eased curves
pub curves_eased : (old new : List Task) → Relieved old new → EasedList (map curve_of old) (map curve_of new)
curves_eased _ _ nothing = nothing
curves_eased _ _ (dropped r) = dropped (curves_eased _ _ r)
curves_eased _ _ (kept e r) = kept (curve_eased _ _ e) (curves_eased _ _ r)
