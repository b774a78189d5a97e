-- `rackparts::closing::closing_line` meets its contract: the line shows the answer of the closing, at the speed that is named.
use Rattle.std.proofs.Common.{ℕ, ◌≡◌, sym, subst, List}
use Rattle.model.specs.Entries.{Answer}
use Rattle.units.specs.declared.Speed.{Speed}
use Rattle.entries.specs.Given.{judge_gives}
use Rattle.line.specs.Text.{line_of}
use Rattle.parts.specs.declared.Upload.{Upload}
use Rattle.parts.specs.Upload.{ClosingJudged}
use Rattle.reply.specs.Printed.{named_p, named_q}
use Rattle.rackparts.specs.Printed.{ClosingPrinted, answer}
use Rattle.rackparts.proofs.closing.closing_line.Goals as goal

closing_shown :
    {u : Upload} {room shown : List ℕ} {m p q : ℕ} {speed : Speed} {a : Answer}
    → (speed.p ≡ named_p m p q) × (speed.q ≡ named_q m p q) → ClosingJudged u room m speed.p speed.q a
    → shown ≡ line_of a.number a.place a.x a.w → ClosingPrinted u room m p q shown
closing_shown {u} {room} {m = m} {p} {q} {a = a} named closes shows =
    subst (ClosingPrinted u room m p q) (sym shows) (answer a (rw (sym named.0, sym named.1) closes))

pub returns : goal.returns
unfolding judge_gives
returns c = closing_shown c.named_speed-speed.ensures c.close-closed.ensures.1 c.verdict_line.ensures
