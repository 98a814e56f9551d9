-- `dubins_legs` sweeps the legs of a Dubins plan for refusals 12 and 17. Assumes nothing.
use Rattle.std.proofs.Common.{rules}
use Rattle.plan.specs.declared.Mode.TheVariants.{Dubins}
use Rattle.plan.specs.Places.{plan_point, plan_course}
use Rattle.plan.specs.Rules.{leg_number, legs_of}
use Rattle.plan.specs.Lent.{lent_plan}
use Rattle.plan.proofs.lent.Lent.dubins_legs.Goals as goal

pub returns : goal.returns
unfolding legs_of leg_number
returns c =
    let p = lent_plan c.args.self.now in
    c.sweep.ensures (leg_number Dubins p.head.radius p.head.count (plan_point p) (plan_course p)) (λ i r l h post. search rules)
