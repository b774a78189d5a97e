-- `graph::rules::g1` meets its contract: the loop has passed vertices that are linked, and a vertex that is not breaks the rule.
use mathlib.Core.Path.{◌≡◌}
use mathlib.Core.Bool.{true}
use Rattle.model.specs.Range.{every}
use Rattle.graph.proofs.WordRules.{linked}
use Rattle.graph.proofs.rules.g1.Given as goal

abbrev pub invariant-loop-v : goal.invariant-loop-v
invariant-loop-v l = every l.v (linked l.links l.n) ≡ true
