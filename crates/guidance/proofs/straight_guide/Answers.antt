-- `straight_guide` gives the guidance of a straight part. Assumes nothing.
use mathlib.Core.Path.{◌∙◌}
use Rattle.heading.specs.Heading.{line_heading}
use Rattle.guidance.specs.Guide.{straight_guide}
use Rattle.guidance.proofs.straight_guide.Goals as goal

pub returns : goal.returns
unfolding straight_guide
returns c =
    let h = c.line_heading.ensures in
    let e = h.0 ∙ (λ i. line_heading (c.direction-q.ensures.0 i) (c.from.ensures.0 i)) in
    (λ i. record { command = c.course_command.ensures i; heading = e i; passed = c.reached.ensures i }, h.1.0)
