-- `corners_and_legs` asks all corners and then all legs, by the mode. Assumes nothing.
use mathlib.Core.Path.{sym, ap, ◌∙◌}
use Rattle.refusals.specs.Sweep.{passed_of}
use Rattle.plan.specs.Places.{plan_point, plan_course, no_course}
use Rattle.plan.specs.Lent.{lent_plan}
use Rattle.plan.proofs.RuleLaws.{line-rest, fillet-rest, dubins-rest}
use Rattle.plan.proofs.lent.Lent.corners_and_legs.Goals as goal

pub returns-in-Lines : goal.returns-in-Lines
returns-in-Lines c =
    let p = lent_plan c.args.self.now in
    rw c.in-Lines.is (c.line_corners.ensures ∙ ap passed_of (sym (line-rest p.head.radius p.head.count (plan_point p) (plan_course p))))

pub returns-in-Fillets : goal.returns-in-Fillets
returns-in-Fillets c =
    let p = lent_plan c.args.self.now in
    rw c.in-Fillets.is (c.fillet_rules.ensures ∙ ap passed_of (fillet-rest p.head.radius p.head.count (plan_point p) no_course (plan_course p)))

pub returns-in-Dubins : goal.returns-in-Dubins
returns-in-Dubins c =
    let p = lent_plan c.args.self.now in
    rw c.in-Dubins.is (c.dubins_legs.ensures ∙ ap passed_of (sym (dubins-rest p.head.radius p.head.count (plan_point p) (plan_course p))))
