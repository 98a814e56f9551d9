-- `first_fault` sweeps the strips for the first that breaks a rule. Assumes nothing.
use Rattle.std.proofs.Common.{rules}
use Rattle.plan.specs.Places.{plan_point, plan_course}
use Rattle.plan.specs.Lent.{lent_plan}
use Rattle.strips.specs.Check.{rule_at, fault_of}
use Rattle.strips.proofs.first_fault.Goals as goal

pub returns : goal.returns
unfolding fault_of
returns c =
    let p = lent_plan c.args.plan.now in
    c.sweep.ensures (rule_at (plan_point p) (plan_course p)) (λ i r l h post. search rules)
