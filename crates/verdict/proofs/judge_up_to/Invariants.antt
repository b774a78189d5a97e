-- `verdict::judge_up_to` meets its contract. The loop's invariant: the charts of the places passed are filled.
use Rattle.verdict.proofs.Filled.{Filled}
use Rattle.verdict.proofs.judge_up_to.Given as goal

abbrev pub invariant-loop-i : goal.invariant-loop-i
invariant-loop-i g l = Filled l.set l.places l.i l.charts
