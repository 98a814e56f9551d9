-- `short` decides whether the position lies at a place or short of it. Assumes nothing.
use mathlib.Core.Path.{ap, ◌∙◌}
use lib.IntN.{ℤ, pos}
use lib.Signed.{le_z}
use mir.Syntax.{w64}
use Rattle.integers.proofs.BoundLaws.{kept}
use Rattle.course.specs.declared.Vector.{Vector}
use Rattle.course.specs.Direction.{direction_of}
use Rattle.plane.specs.Level.{dot_of}
use Rattle.guidance.specs.Guide.{short_of}
use Rattle.guidance.proofs.short.Goals as goal

pub returns : goal.returns
unfolding short_of
returns c =
    let s = c.args in
    let a = c.along.ensures in
    let e = kept w64 a.1 tt ∙ a.0 ∙ ap (λ (v : Vector). dot_of v (direction_of s.course)) c.from.ensures.0 in
    ap (λ (z : ℤ). le_z z (pos 0)) e
