-- `last_leg_guide` gives the guidance of the last leg. Assumes nothing.
use mathlib.Core.Path.{ap, ◌∙◌}
use mathlib.Core.Bool.{Bool}
use Rattle.guidance.specs.Guide.{leg_guide, last_leg_guide}
use Rattle.guidance.proofs.last_leg_guide.Goals as goal

pub returns : goal.returns
unfolding last_leg_guide
returns c =
    let s = c.args in
    (c.leg_guide.ensures.0 ∙ ap (λ (t : Bool). leg_guide s.a s.b t s.at) c.leg_ended.ensures, c.leg_guide.ensures.1)
