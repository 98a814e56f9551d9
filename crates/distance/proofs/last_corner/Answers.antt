-- `last_corner` has no arc and no tangent length, and in fillets the last leg. Assumes nothing.
use Rattle.plan.specs.Places.{plan_point}
use Rattle.plan.specs.Lent.{lent_plan}
use Rattle.distance.proofs.PassLaws.{last-rounded}
use Rattle.distance.proofs.last_corner.Goals as goal

pub returns-in-Fillets : goal.returns-in-Fillets
returns-in-Fillets c m R =
    last-rounded R c.args.plan.now.head.count (plan_point (lent_plan c.args.plan.now)) c.level_leg_at-leg.result c.requires.0 c.level_leg_at-leg.ensures
