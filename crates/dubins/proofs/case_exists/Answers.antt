-- `case_exists` decides whether a case of a leg exists. Assumes nothing.
use mathlib.Core.Path.{◌∙◌}
use Rattle.dubins.proofs.case_exists.Goals as goal

pub returns : goal.returns
returns c = c.tangent_exists.ensures ∙ simp c.circles_of-circles.ensures.0
