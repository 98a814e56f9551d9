-- `last_index` gives the last index. Assumes nothing.
use mathlib.Core.Path.{refl}
use Rattle.manager.specs.State.{last_index}
use Rattle.manager.proofs.last_index.Goals as goal

pub returns : goal.returns
unfolding last_index
returns c = refl
