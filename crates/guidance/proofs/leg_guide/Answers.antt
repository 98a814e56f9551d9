-- `leg_guide` gives the guidance along a leg. Assumes nothing.
use Rattle.guidance.specs.Guide.{leg_guide}
use Rattle.guidance.proofs.leg_guide.Goals as goal

pub returns : goal.returns
unfolding leg_guide
returns c =
    let s = c.args in
    (λ i. record { command = c.line_command.ensures i; heading = c.leg_heading.ensures.0 i; passed = s.passed }, c.leg_heading.ensures.1)
