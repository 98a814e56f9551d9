-- `met` decides the half-plane of a corner. Assumes nothing.
use mathlib.Core.Path.{◌∙◌}
use mir.Syntax.{w64}
use Rattle.integers.proofs.BoundLaws.{kept}
use Rattle.plane.specs.Half.{half_plane, met_of}
use Rattle.plane.proofs.met.Goals as goal

pub returns : goal.returns
unfolding met_of
returns c =
    let x = c.dot3-x in
    let y = c.dot3-y in
    let a = c.squared3 in
    let b = c.squared3-2 in
    c.half_plane.ensures.value
    ∙ (λ i. half_plane ((kept w64 x.ensures.1 tt ∙ x.ensures.0) i) ((kept w64 y.ensures.1 tt ∙ y.ensures.0) i) (a.ensures.0 i) (b.ensures.0 i))
