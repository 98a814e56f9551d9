-- `line_corners` sweeps the corners of a plan of lines for refusal 11. Assumes nothing.
use Rattle.std.proofs.Common.{rules}
use Rattle.plan.specs.declared.Mode.TheVariants.{Lines}
use Rattle.plan.specs.Places.{plan_point}
use Rattle.plan.specs.Rules.{corner_at, corners_of}
use Rattle.plan.specs.Lent.{lent_plan}
use Rattle.plan.proofs.lent.Lent.line_corners.Goals as goal

pub returns : goal.returns
unfolding corners_of
returns c =
    let p = lent_plan c.args.self.now in
    c.sweep.ensures (corner_at Lines (plan_point p)) (λ i r l h post. search rules)
