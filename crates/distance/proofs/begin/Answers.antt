-- `begin` carries nothing but the last point. Assumes nothing.
use native.Mathlib.Omega.{arith}
use Rattle.plan.specs.Lent.{lent_plan}
use Rattle.distance.proofs.PassLaws.{added-start}
use Rattle.distance.proofs.begin.Goals as goal

pub returns : goal.returns
returns c = added-start (lent_plan c.args.plan.now) c.last_corner.result (omega (arith, c.requires.0)) (λ m. c.last_corner.ensures m c.args.plan.now.head.radius)
