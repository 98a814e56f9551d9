-- `last_phase` gives the last phase at an index. Assumes nothing.
use Rattle.conditions.specs.Choose.{choose}
use Rattle.manager.specs.State.{last_phase}
use Rattle.manager.proofs.last_phase.Goals as goal

pub returns-in-Lines : goal.returns-in-Lines
unfolding last_phase
returns-in-Lines c = rw c.in-Lines.is

pub returns-then-on_last_leg : goal.returns-then-on_last_leg
unfolding last_phase choose
returns-then-on_last_leg c =
    rw (c.in-Fillets.is, ← c.on_last_leg.ensures, c.if-on_last_leg.true)

pub returns-else-on_last_leg : goal.returns-else-on_last_leg
unfolding last_phase choose
returns-else-on_last_leg c =
    rw (c.in-Fillets.is, ← c.on_last_leg.ensures, c.if-on_last_leg.false)

pub returns-in-Dubins : goal.returns-in-Dubins
unfolding last_phase
returns-in-Dubins c = rw c.in-Dubins.is
