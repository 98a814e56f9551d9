-- The literals of numbers, chains and sweeps, computed. The checker takes the files by name, this one before all laws, so that a definition that
-- misses the rules is refused by its example. Assumes nothing.
use mathlib.Core.Path.{refl}
use Rattle.conditions.specs.Choose.{choose}
use Rattle.refusals.specs.Outcome.{check}
use Rattle.refusals.specs.Sweep.{sweep}
use Rattle.refusals.specs.Order.{Literals}

pub literals : Literals
unfolding choose check sweep
literals = record { numbers = refl; second = refl; third = refl }
