-- `leg_heading` gives the heading on a leg. Assumes nothing.
use mathlib.Core.Path.{ap, ◌∙◌}
use Rattle.course.specs.declared.Vector.{Vector}
use Rattle.heading.specs.Heading.{line_heading}
use Rattle.guidance.specs.Guide.{from_of, leg_heading}
use Rattle.guidance.proofs.leg_heading.Goals as goal

pub returns : goal.returns
unfolding leg_heading
returns c =
    let p = c.args.at in
    let h = c.line_heading.ensures in
    (h.0 ∙ (λ i. line_heading (c.level_leg.ensures.0 i) ((c.from.ensures.0 ∙ ap (λ (v : Vector). from_of v p) c.level.ensures.0) i)), h.1.0)
