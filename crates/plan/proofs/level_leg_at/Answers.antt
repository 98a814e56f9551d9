-- `level_leg_at` reads two points and takes the bearing and the squared length between them. Assumes nothing.
use mathlib.Core.Path.{ap, ◌∙◌}
use Rattle.course.specs.Bearing.{bearing_of}
use Rattle.plane.specs.Level.{level_leg_of, square_of}
use Rattle.plan.proofs.PlaceLaws.{area-at}
use Rattle.plan.proofs.level_leg_at.Goals as goal

pub level_leg-leg-requires : goal.level_leg-leg-requires
level_leg-leg-requires c =
    (area-at c.point_at-a.ensures c.requires.0, area-at c.point_at-b.ensures c.requires.1)

pub returns : goal.returns
returns c =
    let b = c.bearing.ensures in
    let e = c.level_leg-leg.ensures.0 ∙ (λ t. level_leg_of (c.point_at-a.ensures t) (c.point_at-b.ensures t)) in
    record {
      bearing = b.value ∙ ap bearing_of e;
      below = b.low;
      squared = c.squared.ensures.0 ∙ ap square_of e;
      most = c.squared.ensures.1;
    }
