-- `circle_guide` gives the guidance of a circle. Assumes nothing.
use mathlib.Core.Path.{ap, ◌∙◌}
use Rattle.course.specs.declared.Vector.{Vector}
use Rattle.heading.specs.Heading.{circle_heading}
use Rattle.guidance.specs.Guide.{circle_guide}
use Rattle.guidance.proofs.circle_guide.Goals as goal

pub returns : goal.returns
unfolding circle_guide
returns c =
    let s = c.args in
    let h = c.circle_heading.ensures in
    let e = h.0 ∙ ap (λ (v : Vector). circle_heading v s.radius s.right) c.from.ensures.0 in
    (λ i. record { command = c.circle_command.ensures.0 i; heading = e i; passed = s.passed }, h.1.0)
