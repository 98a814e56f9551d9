-- `level_length` takes the root between the points of a leg. Assumes nothing.
use mathlib.Core.Path.{ap, ◌∙◌}
use Rattle.plane.specs.Level.{level_leg_of, vector_length}
use Rattle.distance.specs.Lengths.{level_length}
use Rattle.distance.proofs.level_length.Goals as goal

pub returns : goal.returns
unfolding level_length
returns c =
    let e = c.level_leg.ensures.0 ∙ (λ t. level_leg_of (c.point_at.ensures t) (c.point_at-2.ensures t)) in
    (c.length.ensures.0 ∙ ap vector_length e, c.length.ensures.1)
