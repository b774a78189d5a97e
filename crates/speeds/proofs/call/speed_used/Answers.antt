-- `speeds::call::speed_used` meets its contract: the default for 0/0, any other speed for itself.
use mathlib.Core.Path.{◌≡◌, sym, ◌∙◌}
use mathlib.Core.Bool.{true}
use Rattle.model.specs.Speeds.{unnamed}
use Rattle.model.proofs.Finding.{call_sized}
use Rattle.speeds.specs.Calls.{named, default}
use Rattle.speeds.proofs.call.speed_used.Goals as goal

pub default_speed-requires : goal.default_speed-requires
default_speed-requires g c =
    let call = c.args.call in
    let sized = call_sized call.m call.speed.p call.speed.q c.requires.called in
    let zero : unnamed call.speed.p call.speed.q ≡ true = sym c.unnamed.ensures ∙ c.if-unnamed.true in
    record { le_m = (sized.0, sized.1, c.requires.dated.0); timely = rw zero at c.requires.dated.1 }

pub returns-then-unnamed : goal.returns-then-unnamed
returns-then-unnamed g c =
    default _ (sym c.unnamed.ensures ∙ c.if-unnamed.true) c.default_speed.ensures

pub returns : goal.returns
returns g c = named (sym c.unnamed.ensures ∙ c.if-unnamed.false)
