-- What the loop of `all_easy` keeps: so far all turns are easy and all legs long. Assumes nothing.
use Prim.Native.Nat.{◌<◌}
use Rattle.plan.specs.Places.{plan_point, no_course}
use Rattle.plan.specs.Lent.{lent_plan}
use Rattle.plan.proofs.EasyPlanLaws.{Easily}
use Rattle.plan.proofs.lent.Lent.all_easy.Given as goal

abbrev pub invariant-loop-i : goal.invariant-loop-i
invariant-loop-i l =
    let p = lent_plan l.self in
    (l.i < p.head.count) × Easily p.head.radius p.head.count (plan_point p) no_course l.i
