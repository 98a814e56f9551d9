-- 14 refuses the empty state. Assumes nothing.
use mathlib.Core.Path.{◌≡◌, refl}
use mathlib.Core.Bool.{false}
use Rattle.conditions.specs.Choose.{choose}
use Rattle.conditions.specs.Both.{both}
use Rattle.plan.specs.Stands.{stands_of}
use Rattle.manager.specs.State.{empty_state, valid_of}

pub empty-invalid : valid_of empty_state ≡ false
unfolding choose both stands_of valid_of
empty-invalid = refl
