-- `put_mode` writes the name of a mode. Assumes nothing.
use native.Mathlib.Omega.{arith}
use Rattle.report.specs.Listing.{mode_text}
use Rattle.report.proofs.put_mode.Goals as goal

pub returns-in-Lines : goal.returns-in-Lines
unfolding mode_text
returns-in-Lines c =
    rw c.in-Lines.is (c.text.ensures, omega (arith, c.text.ensures.wrote.ends))

pub returns-in-Fillets : goal.returns-in-Fillets
unfolding mode_text
returns-in-Fillets c =
    rw c.in-Fillets.is (c.text-in-Fillets.ensures, omega (arith, c.text-in-Fillets.ensures.wrote.ends))

pub returns-in-Dubins : goal.returns-in-Dubins
unfolding mode_text
returns-in-Dubins c =
    rw c.in-Dubins.is (c.text-in-Dubins.ensures, omega (arith, c.text-in-Dubins.ensures.wrote.ends))
