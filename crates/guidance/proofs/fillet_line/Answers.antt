-- `fillet_line` gives the guidance of phase line. Assumes nothing.
use mathlib.Core.Path.{ap, ◌∙◌}
use mathlib.Core.Bool.{Bool}
use Rattle.course.specs.declared.Vector.{Vector}
use Rattle.guidance.specs.Guide.{past_of, leg_guide, fillet_line}
use Rattle.guidance.proofs.fillet_line.Goals as goal

pub returns : goal.returns
unfolding fillet_line
returns c =
    let s = c.args in
    let passed = c.past-passed.ensures ∙ ap (λ (v : Vector). past_of s.corner.z1 v s.at) c.level_leg.ensures.0 in
    (c.leg_guide.ensures.0 ∙ ap (λ (t : Bool). leg_guide s.a s.b t s.at) passed, c.leg_guide.ensures.1)
