-- `pairs` sweeps the pairs for refusal 10. Assumes nothing.
use Rattle.std.proofs.Common.{rules}
use Rattle.plan.specs.Places.{plan_point}
use Rattle.plan.specs.Rules.{pair_at, pairs_of}
use Rattle.plan.specs.Lent.{lent_plan}
use Rattle.plan.proofs.lent.Lent.pairs.Goals as goal

pub returns : goal.returns
unfolding pairs_of
returns c =
    let p = lent_plan c.args.self.now in
    c.sweep.ensures (pair_at (plan_point p)) (λ i r l h post. search rules)
