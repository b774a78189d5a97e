-- The jobs of a readable task may be walked, at any q: there is room for what remains at every tick.
use Prim.Native.Nat.{ℕ, ◌*◌, ◌≤◌}
use native.Mathlib.Nat.{lt_of_le_of_lt}
use lib.Dec.{lit<}
use Rattle.model.specs.Limits.{largest_part}
use Rattle.model.proofs.Easing.{remains_most}
use Rattle.model.proofs.Bounds.{product_fits, volume_fits, widened}
use Rattle.curve.specs.declared.chart.Figures.{Figures}
use Rattle.curve.specs.declared.chart.Jobs.{Jobs}
use Rattle.curve.specs.Sheets.{Sheet, Walks}
use Rattle.curve.specs.Tables.{work_left, table_curve}

module _ {figures : Figures} {tables : Jobs} (sheet : Sheet figures tables) where
  -- no more is left than the volume
  pub left_most : (q x : ℕ) → work_left tables q figures.vertices x ≤ q * figures.volume.0
  unfolding table_curve
  left_most q x = remains_most q sheet.curve.lawful x

  pub walks : {q : ℕ} → q ≤ largest_part → Walks tables q figures.vertices
  unfolding table_curve
  walks {q} low =
      record {
        laid = sheet.laid;
        closed = sheet.closed;
        jobs = λ v. product_fits low (sheet.jobs v) (lit< tt);
        dues = λ v. product_fits low (sheet.dues v) (lit< tt);
        sum = λ x. lt_of_le_of_lt (left_most q x) (widened (volume_fits low sheet.curve.volume));
      }
