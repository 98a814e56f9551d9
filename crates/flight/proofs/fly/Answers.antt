-- `fly` refuses lists that do not fit and what a load refuses, or flies all fixes from the state that was loaded. Assumes nothing.
use mathlib.Core.Path.{sym, ap, ◌∙◌}
use Rattle.manager.specs.declared.State.{State}
use Rattle.wpl.proofs.LoadLaws.{loaded-good, loaded-refused}
use Rattle.flight.proofs.FlightLaws.{flies-not, load-refused, flies}
use Rattle.flight.proofs.DemandLaws.{demand}
use Rattle.flight.proofs.TwoFlightsLaws.{two-flights}
use Rattle.flight.proofs.AnchorLaws.{anchored}
use Rattle.flight.proofs.fly.Goals as goal

pub returns-then-not-fits : goal.returns-then-not-fits
returns-then-not-fits c =
    let f = flies-not _ _ _ _ _ _ (sym c.fits.ensures ∙ c.if-not-fits.true) in
    record { value = ap (λ (s : State). record { refusal = 100; place = 0; state = s }) c.empty.ensures.0 ∙ f.flown; answers_after = f.answered; commands_after = f.commanded; older_flights = λ r o z. two-flights _ _ _ _ _ r o z; demand = demand; anchored = anchored }

pub returns-then-loaded-ne0 : goal.returns-then-loaded-ne0
returns-then-loaded-ne0 c =
    let k = loaded-refused _ _ _ c.load-loaded.ensures.value c.if-loaded-ne0.true in
    let f = load-refused _ _ _ _ _ _ (sym c.fits.ensures ∙ c.if-not-fits.false) _ _ k.0 in
    record { value = ap (λ (s : State). record { refusal = c.load-loaded.result.refusal; place = c.load-loaded.result.place; state = s }) k.1 ∙ f.flown; answers_after = f.answered; commands_after = f.commanded; older_flights = λ r o z. two-flights _ _ _ _ _ r o z; demand = demand; anchored = anchored }

pub fly_all-requires : goal.fly_all-requires
fly_all-requires c = sym c.fits.ensures ∙ c.if-not-fits.false

pub returns : goal.returns
returns c =
    let h = sym c.fits.ensures ∙ c.if-not-fits.false in
    let k = loaded-good _ _ _ c.load-loaded.ensures.value c.if-loaded-ne0.false in
    let f = flies _ _ _ _ _ _ h _ _ _ _ k c.fly_all.ensures.value c.fly_all.ensures.answers_after c.fly_all.ensures.commands_after in
    record { value = f.flown; answers_after = f.answered; commands_after = f.commanded; older_flights = λ r o z. two-flights _ _ _ _ _ r o z; demand = demand; anchored = anchored }
