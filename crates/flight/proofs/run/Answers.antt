-- `run` refuses lists that do not fit, or flies them all. Assumes nothing.
use mathlib.Core.Path.{refl, sym, ◌∙◌}
use Rattle.flight.proofs.FlightLaws.{flies-not, flies}
use Rattle.flight.proofs.run.Goals as goal

pub returns-then-not-fits : goal.returns-then-not-fits
returns-then-not-fits c =
    let f = flies-not _ _ _ _ _ _ (sym c.fits.ensures ∙ c.if-not-fits.true) in
    record { value = f.flown; answers_after = f.answered; commands_after = f.commanded }

pub fly_all-requires : goal.fly_all-requires
fly_all-requires c = sym c.fits.ensures ∙ c.if-not-fits.false

pub returns : goal.returns
returns c =
    let h = sym c.fits.ensures ∙ c.if-not-fits.false in
    let f = flies _ _ _ _ _ _ h _ _ _ _ refl c.fly_all.ensures.value c.fly_all.ensures.answers_after c.fly_all.ensures.commands_after in
    record { value = f.flown; answers_after = f.answered; commands_after = f.commanded }
