-- The jobs and figures of a readable task make its curve, and every number made from them fits its word.
use Prim.Native.Nat.{ℕ, ◌-◌, ◌≤◌}
use mathlib.Core.Path.{◌≡◌, sym, ◌∙◌, ap₂, subst}
use native.Mathlib.Nat.{one-mul}
use native.Mathlib.Omega.{arith}
use lib.ListN.{get_or}
use Rattle.model.specs.Limits.{longest_job, largest_volume}
use Rattle.model.specs.Graph.{size, edge}
use Rattle.model.specs.Realization.{Task, rdem, volume, len}
use Rattle.model.specs.Curve.{curve_of}
use Rattle.model.specs.Lawful.{Lawful, Limited}
use Rattle.model.proofs.Readable.{Readable}
use Rattle.model.proofs.Bounds.{sized, latest_within, rdem_within, limited}
use Rattle.model.proofs.TaskCurve.{curve_lawful}
use Rattle.model.proofs.Moment.{latest, share}
use Rattle.model.proofs.Figures.{remaining_walks, length_ends_last}
use Rattle.shape.specs.Choices.{ArmTable}
use Rattle.curve.specs.declared.chart.Figures.{Figures}
use Rattle.curve.specs.declared.chart.Jobs.{Jobs}
use Rattle.curve.specs.Sheets.{Walks, Sheet}
use Rattle.curve.specs.Tables.{job_left, jobs_left, work_left, table_curve}
use Rattle.tasks.specs.Told.{TimesOf, EndsOf}
use Rattle.tasks.proofs.WordWalks.{Whole, laid_of, closed_of, walk_of}

-- what figures tell of a task: its deadline and period, the end of its last vertex, the sum of all its jobs, and its vertices
pub record FiguresOf (t : Task) (jobs : Jobs) (figures : Figures) : Type 0 where
  pub deadline : figures.deadline.0 ≡ t.deadline
  pub period : figures.period.0 ≡ t.period
  pub length : figures.length.0 ≡ get_or jobs.ends (size t.shape - 1) 0
  pub volume : figures.volume.0 ≡ work_left jobs 1 figures.vertices 0
  pub vertices : Whole t.shape figures.vertices

module _ {t : Task} (r : Readable t) (jobs : Jobs)
    (is_times : TimesOf t jobs.times) (is_ends : EndsOf t jobs.ends) (is_arms : ArmTable t.shape jobs.arms) where
  jobs_short : (v : ℕ) → get_or jobs.times v 0 ≤ longest_job
  jobs_short v = omega (arith, is_times v, (sized t r).short v)

  ends_low : (v : ℕ) → get_or jobs.ends v 0 ≤ largest_volume
  ends_low v = omega (arith, is_ends v, latest_within t (sized t r) (edge t.shape) v)

  -- the sum over all the vertices is the remaining work
  sum_remains : (set : ℕ) → Whole t.shape set → (q x : ℕ) → work_left jobs q set x ≡ rdem t q x
  unfolding job_left share latest
  sum_remains set whole q x =
      walk_of r.drawn jobs.arms is_arms r.small (jobs_left jobs.times jobs.ends q x) (share t q x)
      (λ v _. ap₂ (job_left q x) (is_times v) (is_ends v)) set whole
      ∙ sym (remaining_walks t r.drawn q x)

  -- what the sum for the volume asks, before there are figures
  pub volume_walks : (set : ℕ) → Whole t.shape set → Walks jobs 1 set
  volume_walks set whole =
      record {
        laid = laid_of r.drawn jobs.arms is_arms;
        closed = closed_of r.drawn jobs.arms is_arms set whole;
        jobs = λ v. omega (arith, jobs_short v);
        dues = λ v. omega (arith, ends_low v);
        sum = λ x. omega (arith, sum_remains set whole 1 x, rdem_within t (sized t r) 1 x);
      }

  module _ (figures : Figures) (told : FiguresOf t jobs figures) where
    lawful : Lawful (curve_of t)
    lawful = curve_lawful t r.deadline_low r.deadline_high

    length_told : figures.length.0 ≡ len t
    unfolding latest
    length_told = told.length ∙ is_ends (size t.shape - 1) ∙ sym (length_ends_last t r.drawn)

    -- at the start all of the volume is left
    volume_told : figures.volume.0 ≡ volume t
    unfolding curve_of
    volume_told = told.volume ∙ sum_remains figures.vertices told.vertices 1 0 ∙ lawful.whole 1 ∙ one-mul (volume t)

    table_curve_lem : table_curve figures jobs ≡ curve_of t
    unfolding table_curve curve_of
    table_curve_lem =
        λ i.
        record {
          deadline = told.deadline i;
          period = told.period i;
          length = length_told i;
          volume = volume_told i;
          remains = λ q x. sum_remains figures.vertices told.vertices q x i;
        }

    sheet_of : Sheet figures jobs
    sheet_of =
        record {
          laid = laid_of r.drawn jobs.arms is_arms;
          closed = closed_of r.drawn jobs.arms is_arms figures.vertices told.vertices;
          jobs = jobs_short;
          dues = ends_low;
          curve = subst Limited (sym table_curve_lem) (limited t r lawful);
        }

    pub figures_tell : Sheet figures jobs × (table_curve figures jobs ≡ curve_of t)
    figures_tell = (sheet_of, table_curve_lem)
