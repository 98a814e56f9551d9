-- What the loop of `turns_and_legs` keeps. Assumes nothing.
use Rattle.plan.specs.Places.{plan_point, no_course}
use Rattle.plan.specs.Lent.{lent_plan}
use Rattle.plan.proofs.FilletLegLaws.{Carried}
use Rattle.plan.proofs.lent.Lent.turns_and_legs.Given as goal

abbrev pub invariant-loop-i : goal.invariant-loop-i
invariant-loop-i l =
    let p = lent_plan l.self in
    Carried p.head.radius p.head.count (plan_point p) no_course l.i l.before l.leg l.found
