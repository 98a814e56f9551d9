-- `line_guide` gives the guidance of lines. Assumes nothing.
use mathlib.Core.Path.{ap, ◌∙◌}
use mathlib.Core.Bool.{Bool}
use Rattle.plane.specs.Half.{met_of}
use Rattle.guidance.specs.Guide.{leg_guide, line_guide}
use Rattle.guidance.proofs.line_guide.Goals as goal

pub returns : goal.returns
unfolding line_guide
returns c =
    let s = c.args in
    let passed = c.met-passed.ensures ∙ (λ i. met_of (c.leg_between.ensures.0 i) (c.leg_between-2.ensures.0 i) (c.leg_between-3.ensures.0 i)) in
    (c.leg_guide.ensures.0 ∙ ap (λ (t : Bool). leg_guide s.a s.b t s.at) passed, c.leg_guide.ensures.1)
