-- `circle_heading` gives the heading on a circle. Assumes nothing.
use mathlib.Core.Path.{ap, ◌∙◌}
use mir.Syntax.{w64}
use Rattle.integers.proofs.BoundLaws.{kept}
use Rattle.heading.specs.Heading.{circle_angle, round_heading, circle_heading}
use Rattle.heading.proofs.CheckedExamples.{circle-examples}
use Rattle.heading.proofs.circle_heading.Goals as goal

pub returns : goal.returns
unfolding circle_heading
returns c =
    let s = c.args in
    let b = c.circle_angle-b in
    let l = c.length in
    let k = c.bearing-k in
    let e = kept w64 b.ensures.1 tt ∙ b.ensures.0 ∙ ap (circle_angle s.radius) l.ensures.0 in
    (c.round_heading.ensures.0 ∙ (λ i. round_heading (k.ensures.value i) s.right (e i)), (c.round_heading.ensures.1, circle-examples))
