-- `on_last_leg` decides whether a leg is the last one. Assumes nothing.
use Rattle.manager.specs.State.{on_last_leg}
use Rattle.manager.proofs.on_last_leg.Goals as goal

pub returns : goal.returns
unfolding on_last_leg
returns c = rw c.last_index.ensures
