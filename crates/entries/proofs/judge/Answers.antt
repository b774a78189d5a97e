-- `entries::judge` meets its contract: one way through it for a call that it does not take, one for a set that cannot be read, and one
-- for each thing that may be found of the tasks.
use mathlib.Core.Path.{◌≡◌, refl, sym, ◌∙◌, ap}
use mathlib.Core.Bool.{true}
use native.Mathlib.Omega.{arith}
use Rattle.model.specs.Records.{tasks_at, reading}
use Rattle.model.specs.Entries.{Answer, Judged, bad_call, unread, judge_takes, curves_at}
use Rattle.units.specs.declared.Rack.{Rack}
use Rattle.verdict.specs.Stands.{Stands}
use Rattle.verdict.specs.declared.Judgement.{Judgement}
use Rattle.verdict.specs.declared.Judgement.TheVariants.{LongCycle, Accepted, Dense, Overrun}
use Rattle.entries.specs.Given.{judge_gives}
use Rattle.entries.proofs.Heard.{heard_few, heard_readable}
use Rattle.entries.proofs.Finding.{answered, answer_right, dense_low}
use Rattle.entries.proofs.judge.Goals.{After-list-places, Else-not-judge_takes}
use Rattle.entries.proofs.judge.Goals as goal

-- judge takes the call
takes : (c : Else-not-judge_takes) → judge_takes c.args.m c.args.p c.args.q ≡ true
takes c = sym c.judge_takes.ensures ∙ c.if-not-judge_takes.false

-- the set can be read, and these are the places of its tasks
heard : (c : After-list-places) → tasks_at c.list-places.result.now ≡ reading c.args.set.now
heard c = ap tasks_at c.list-places.ensures ∙ c.in-Ok.ensures

-- the call, as the rack that it asks for
abbrev call : After-list-places → Rack
call c = record { m = c.args.m; speed = record { p = c.args.p; q = c.args.q } }

-- what is found of the tasks at the places
abbrev Found : After-list-places → Judgement → Type 0
Found c found = Stands (call c) (curves_at c.args.set.now c.list-places.result.now) found

-- an answer that says what is found of the tasks is right
answers :
    {answer : Answer} (c : After-list-places) (found : Judgement) → Found c found
    → answer ≡ answered c.list-places.result.now found → Judged c.args.set.now c.args.m c.args.p c.args.q answer
answers c found stands is =
    rw is (answer_right _ _ (heard c) (call c) (takes (goal.at.After-list-places c).Else-not-judge_takes) found stands)

pub returns-then-not-judge_takes : goal.returns-then-not-judge_takes
returns-then-not-judge_takes c = rw c.refuse.ensures (bad_call (sym c.judge_takes.ensures ∙ c.if-not-judge_takes.true))

pub returns-in-Err : goal.returns-in-Err
returns-in-Err c =
    rw (c.refuse-in-Err.ensures, c.number.ensures, c.place.ensures)
    (unread _ _ (takes (goal.at.returns-in-Err c).Else-not-judge_takes) (sym c.in-Err.ensures))

pub judge_places-requires-clause-by_index : goal.judge_places-requires-clause-by_index
judge_places-requires-clause-by_index c = heard_readable _ _ (heard (goal.at.judge_places-requires-clause-by_index c).After-list-places)

pub offset_bounds-places-i : goal.offset_bounds-places-i
offset_bounds-places-i c =
    let h = heard (goal.at.offset_bounds-places-i c).After-list-places in
    let few = heard_few _ _ h in
    let low = dense_low _ _ h _ c.in-Dense.ensures in
    omega arith

pub bounds-places-i : goal.bounds-places-i
bounds-places-i c = dense_low _ _ (heard (goal.at.bounds-places-i c).After-list-places) _ c.in-Dense.ensures

pub returns-in-LongCycle : goal.returns-in-LongCycle
returns-in-LongCycle c =
    answers (goal.at.returns-in-LongCycle c).After-list-places LongCycle c.in-LongCycle.ensures c.refuse-in-LongCycle.ensures

pub returns-in-Accepted : goal.returns-in-Accepted
unfolding judge_gives
returns-in-Accepted c = answers (goal.at.returns-in-Accepted c).After-list-places (Accepted c.in-Accepted.speed) c.in-Accepted.ensures refl

pub returns-in-Dense : goal.returns-in-Dense
returns-in-Dense c = answers (goal.at.returns-in-Dense c).After-list-places (Dense c.in-Dense.i) c.in-Dense.ensures c.refuse-in-Dense.ensures

pub returns-in-Overrun : goal.returns-in-Overrun
unfolding judge_gives
returns-in-Overrun c =
    answers (goal.at.returns-in-Overrun c).After-list-places (Overrun c.in-Overrun.x c.in-Overrun.w c.in-Overrun.speed) c.in-Overrun.ensures refl
