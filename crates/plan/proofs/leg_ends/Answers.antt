-- `leg_ends` reads the points and the courses at the ends of a leg. Assumes nothing.
use Rattle.plan.proofs.PlaceLaws.{area-at, course-low}
use Rattle.plan.proofs.leg_ends.Goals as goal

pub returns : goal.returns
returns c =
    let h = c.requires.1 in (
      λ t. record { start = c.point_at-start.ensures t; leave = c.course_at-leave.ensures t; end = c.point_at-end.ensures t; arrive = c.course_at-arrive.ensures t; radius = c.args.radius },
      record {
        start = area-at c.point_at-start.ensures h.0.0;
        leave = course-low c.course_at-leave.ensures h.1.0.0;
        end = area-at c.point_at-end.ensures h.0.1;
        arrive = course-low c.course_at-arrive.ensures h.1.0.1;
        radius = h.1.1;
      },
    )
