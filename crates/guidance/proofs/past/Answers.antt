-- `past` decides whether the position lies past a place along a leg. Assumes nothing.
use mathlib.Core.Path.{ap, ◌∙◌}
use lib.IntN.{pos}
use lib.Signed.{le_z}
use mir.Syntax.{w64}
use Rattle.integers.proofs.BoundLaws.{kept}
use Rattle.course.specs.declared.Vector.{Vector}
use Rattle.plane.specs.Level.{dot_of}
use Rattle.guidance.specs.Guide.{past_of}
use Rattle.guidance.proofs.past.Goals as goal

pub returns : goal.returns
unfolding past_of
returns c =
    let s = c.args in
    let a = c.dot.ensures in
    ap (le_z (pos 0)) (kept w64 a.1 tt ∙ a.0 ∙ ap (λ (v : Vector). dot_of v s.leg) c.from.ensures.0)
