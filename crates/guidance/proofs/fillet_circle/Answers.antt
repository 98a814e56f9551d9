-- `fillet_circle` gives the guidance of phase circle. Assumes nothing.
use mathlib.Core.Path.{ap, ◌∙◌}
use mathlib.Core.Bool.{Bool}
use Rattle.course.specs.declared.Vector.{Vector}
use Rattle.guidance.specs.Guide.{past_of, circle_guide, fillet_circle}
use Rattle.guidance.proofs.fillet_circle.Goals as goal

pub returns : goal.returns
unfolding fillet_circle
returns c =
    let s = c.args in
    let passed = c.past-passed.ensures ∙ ap (λ (v : Vector). past_of s.corner.z2 v s.at) c.level_leg.ensures.0 in
    (c.circle_guide.ensures.0 ∙ ap (λ (t : Bool). circle_guide s.corner.centre s.b s.radius s.corner.right t s.at) passed, c.circle_guide.ensures.1)
