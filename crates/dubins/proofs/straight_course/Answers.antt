-- `straight_course` gives the course of the straight part. Assumes nothing.
use mathlib.Core.Path.{sym, ◌∙◌}
use Rattle.conditions.specs.Choose.{choose}
use Rattle.dubins.specs.Cases.{straight_course}
use Rattle.dubins.proofs.straight_course.Goals as goal

pub returns-then-same_side : goal.returns-then-same_side
unfolding straight_course choose
returns-then-same_side c = (simp (sym c.same_side.ensures ∙ c.if-same_side.true, c.bearing.ensures.value), c.bearing.ensures.low)

pub returns-else-same_side : goal.returns-else-same_side
unfolding straight_course choose
returns-else-same_side c =
    (simp (sym c.same_side.ensures ∙ c.if-same_side.false, c.bearing-else-same_side.ensures.value, c.inner_tangent.ensures.0, c.starts_right.ensures), c.bearing-else-same_side.ensures.low)
