-- `graph::rules::g4` meets its contract: of two arms, that they meet is all that can break the rule.
use mathlib.Core.Path.{◌∙◌, ap}
use mathlib.Core.Bool.{not}
use lib.ListN.{get_or}
use Rattle.graph.proofs.WordRules.{g4_words}
use Rattle.graph.proofs.rules.g4.Goals as goal

pub returns : goal.returns
returns c = λ t n s d two are.
    ap not c.meets.ensures ∙ g4_words t n d s (get_or c.args.pair 0 0) (get_or c.args.pair 1 0) two are.lower are.higher
