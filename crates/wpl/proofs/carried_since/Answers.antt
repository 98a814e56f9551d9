-- `carried_since` gives each mode's version. Assumes nothing.
use mathlib.Core.Path.{sym, ap}
use Rattle.wpl.specs.Write.{carried_since}
use Rattle.wpl.proofs.carried_since.Goals as goal

pub returns-in-Lines : goal.returns-in-Lines
unfolding carried_since
returns-in-Lines c = sym (ap carried_since c.in-Lines.is)

pub returns-in-Fillets : goal.returns-in-Fillets
unfolding carried_since
returns-in-Fillets c = sym (ap carried_since c.in-Fillets.is)

pub returns-in-Dubins : goal.returns-in-Dubins
unfolding carried_since
returns-in-Dubins c = sym (ap carried_since c.in-Dubins.is)
