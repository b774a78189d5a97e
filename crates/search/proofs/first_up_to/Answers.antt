use mathlib.Core.Path.{refl}
use native.Mathlib.Omega.{arith}
use Rattle.search.proofs.Narrowing.{clear_at_once}
use Rattle.search.proofs.first_up_to.Goals.{In-Err, After-min-top}
use Rattle.search.proofs.first_up_to.Goals as goal

pub loop-part-init : goal.loop-part-init
loop-part-init c =
    let a = c.args in (
      omega arith,
      c.requires.le_found.0,
      omega arith,
      omega arith,
      omega arith,
      clear_at_once a.search.now.load.now.tasks.now a.search.now.load.now.rack a.search.now.load.now.timely,
      c.requires.found_value,
      refl,
    )
