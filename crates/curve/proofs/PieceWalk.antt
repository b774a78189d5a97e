-- The walk over words of vertices, in pieces: what is done is a piece, and with what is left it makes up the work of the set at every tick.
use Prim.Native.Nat.{ℕ, ◌+◌, ◌*◌, ◌^◌, ◌≤◌, ◌<◌, max}
use mathlib.Core.Path.{◌≡◌, ◌∙◌, ap}
use mathlib.Core.Bool.{true}
use native.Mathlib.Omega.{arith}
use Rattle.model.proofs.Ranges.{is_false, count_fewer}
use Rattle.vertices.specs.Members.{has}
use Rattle.piece.specs.declared.Piece.{Piece}
use Rattle.piece.specs.Piece.{Linear, together}
use Rattle.curve.specs.declared.chart.Jobs.{Jobs}
use Rattle.curve.specs.Sheets.{Walks}
use Rattle.curve.specs.Tables.{jobs_left, arm_of, arm_sum, work_left}
use Rattle.curve.proofs.WordWalk.{member_count, Lowest, Bare, Leaves, left_in, sum_empty, larger, taken, turned}
use Rattle.piece.proofs.Pieces.{alike, added, added_fits}

-- the curve that is done, whose piece from tick x is the sum, and what is left, which lies in the set
pub record Walked (jobs : Jobs) (q x set : ℕ) (sum : Piece) (left : ℕ) : Type 0 where
  pub done : ℕ → ℕ
  pub piece : Linear done x sum
  pub total : (y : ℕ) → done y + work_left jobs q left y ≡ work_left jobs q set y
  pub inside : (u : ℕ) → has left u ≡ true → has set u ≡ true

module _ (jobs : Jobs) (q x set : ℕ) where
  -- at first nothing is done
  pub begun : 0 < x → Walked jobs q x set (record { value = record { 0 = 0 }; slope = 0; run = record { 0 = x } }) set
  begun pos =
      record {
        done = λ y. 0;
        piece = record { some = pos; within = omega arith; on = λ j l. omega arith };
        total = λ y. omega arith;
        inside = λ u h. h;
      }

  -- where nothing is left, the sum is whole
  pub whole : {sum : Piece} {left : ℕ} → Walked jobs q x set sum left → left ≡ 0 → Linear (work_left jobs q set) x sum
  whole {sum} {left} walked none =
      alike walked.piece (λ y.
      let f = jobs_left jobs.times jobs.ends q y in
      omega (arith, walked.total y, ap (arm_sum jobs.arms f) none ∙ sum_empty jobs.arms f))

-- what is known where a turn begins
pub record Turn (jobs : Jobs) (q x set : ℕ) (sum : Piece) (left v : ℕ) : Type 0 where
  pub walks : Walks jobs q set
  pub walked : Walked jobs q x set sum left
  pub lowest : Lowest left v

module _ {jobs : Jobs} {q x set : ℕ} {sum : Piece} {left v : ℕ}
    (turn : Turn jobs q x set sum left v) where
  -- what remains of a vertex at tick y
  abbrev f : ℕ → ℕ → ℕ
  f y = jobs_left jobs.times jobs.ends q y

  within : (y : ℕ) → turn.walked.done y + f y v + larger jobs.arms (f y) v < 2 ^ 64
  within y = omega (arith, turn.walks.sum y, turn.walked.total y, taken jobs.arms (f y) turn.walks.laid turn.lowest)

  -- an arm asks what the set asks
  arm_walks :
      (i : ℕ) → ((y : ℕ) → arm_sum jobs.arms (f y) (arm_of jobs.arms v i) ≤ larger jobs.arms (f y) v) → Walks jobs q (arm_of jobs.arms v i)
  arm_walks i le =
      record {
        laid = turn.walks.laid;
        closed = turn.walks.laid.nested v i;
        jobs = turn.walks.jobs;
        dues = turn.walks.dues;
        sum = λ y. omega (arith, le y, within y);
      }

  pub arms_walk : Walks jobs q (arm_of jobs.arms v 0) × Walks jobs q (arm_of jobs.arms v 1)
  arms_walk = (arm_walks 0 (λ y. omega arith), arm_walks 1 (λ y. omega arith))

  -- and holds fewer vertices
  arm_fewer : (i : ℕ) → member_count (arm_of jobs.arms v i) < member_count set
  unfolding member_count
  arm_fewer i =
      let held = turn.walked.inside v turn.lowest.held in
      count_fewer 64 (has (arm_of jobs.arms v i)) (has set) v turn.lowest.small
      (is_false (has (arm_of jobs.arms v i) v) (λ h. omega (arith, turn.walks.laid.above v i v h))) held
      (λ u. turn.walks.closed v i u held)

  pub arms_fewer : {t : ℕ} → 2 * member_count set ≡ t → 2 * max (member_count (arm_of jobs.arms v 0)) (member_count (arm_of jobs.arms v 1)) + 1 < t
  arms_fewer e = omega (arith, arm_fewer 0, arm_fewer 1)

  -- the vertex, then its arms
  module _ {job : Piece} (is_job : Linear (λ y. f y v) x job) where
    pub job_fits : (sum.value.0 + job.value.0 < 2 ^ 64) × (sum.slope + job.slope < 2 ^ 64)
    job_fits = added_fits turn.walked.piece is_job (λ y. omega (arith, within y))

    module _ {mid : Piece} (is_mid : mid ≡ together sum job) where
      abbrev midway : Linear (λ y. turn.walked.done y + f y v) x mid
      midway = added turn.walked.piece is_job is_mid

      pub plain_turn : {next : ℕ} → Bare jobs.arms v → Leaves jobs.arms left v next → Walked jobs q x set mid next
      plain_turn {next} bare leaves =
          let empty : (y a : ℕ) → a ≡ 0 → arm_sum jobs.arms (f y) a ≡ 0 = λ y a e. ap (arm_sum jobs.arms (f y)) e ∙ sum_empty jobs.arms (f y) in
          record {
            done = λ y. turn.walked.done y + f y v;
            piece = midway;
            total = λ y. omega (
              arith,
              turn.walked.total y,
              turned jobs.arms (f y) turn.walks.laid turn.lowest leaves,
              empty y (arm_of jobs.arms v 0) bare.0,
              empty y (arm_of jobs.arms v 1) bare.1,
            );
            inside = λ u h. turn.walked.inside u (left_in turn.lowest leaves u h);
          }

      module _ {arm : Piece} (is_arm : Linear (λ y. larger jobs.arms (f y) v) x arm) where
        pub arm_fits : (mid.value.0 + arm.value.0 < 2 ^ 64) × (mid.slope + arm.slope < 2 ^ 64)
        arm_fits = added_fits midway is_arm within

        pub choice_turn :
            {sum2 : Piece} {next : ℕ} → sum2 ≡ together mid arm → Leaves jobs.arms left v next → Walked jobs q x set sum2 next
        choice_turn is_sum leaves =
            record {
              done = λ y. turn.walked.done y + f y v + larger jobs.arms (f y) v;
              piece = added midway is_arm is_sum;
              total = λ y. omega (arith, turn.walked.total y, turned jobs.arms (f y) turn.walks.laid turn.lowest leaves);
              inside = λ u h. turn.walked.inside u (left_in turn.lowest leaves u h);
            }
