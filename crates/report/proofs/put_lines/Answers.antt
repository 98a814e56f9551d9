-- `put_lines` writes the line of each point behind the one before it. Assumes nothing.
use mathlib.Core.Path.{ap, ◌∙◌}
use Rattle.plan.specs.declared.Plan.{Plan}
use Rattle.plan.specs.Places.{plan_point}
use Rattle.report.proofs.ListingLaws.{starts, goes_on}
use Rattle.report.proofs.put_lines.Goals as goal

pub loop-i-init : goal.loop-i-init
loop-i-init c = starts c.args.plan c.args.out.now c.requires.1

pub loop-i-preserved : goal.loop-i-preserved
loop-i-preserved c =
    goes_on c.args.plan c.args.out.now c.requires.1 _ _ c.loop-i.invariant _ c.loop-i-test.true
    (c.point_at.ensures ∙ ap (λ (p : Plan). plan_point p c.loop-i.i) c.lent-lent.ensures) c.course_at-course.ensures c.put_line.ensures
