-- `Case::same_side` tells RSR and LSL. Assumes nothing.
use Rattle.std.proofs.Common.{◌≡◌, Bool, true, false, not, refl}
use mathlib.Core.Bool.{beq}
use Rattle.conditions.specs.Choose.{choose}
use Rattle.dubins.specs.Cases.{same_side}
use Rattle.dubins.proofs.Case.same_side.Goals as goal

alike : (a b : Bool) → beq a b ≡ choose a b (not b)
unfolding choose
alike true true = refl
alike true false = refl
alike false true = refl
alike false false = refl

pub returns : goal.returns
unfolding same_side
returns c = simp (c.starts_right.ensures, c.ends_right.ensures) (alike _ _)
