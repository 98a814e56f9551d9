-- `refusal` gives the number and the place of a load. Assumes nothing.
use mathlib.Core.Path.{ap}
use Rattle.wpl.specs.declared.Entered.{Entered}
use Rattle.wpl.proofs.refusal.Goals as goal

pub returns : goal.returns
returns c =
    let e = c.load_into-entered.ensures.value in
    record { number_value = ap (λ (x : Entered). x.refusal) e; place_value = ap (λ (x : Entered). x.place) e }
