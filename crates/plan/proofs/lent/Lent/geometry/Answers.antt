-- `geometry` asks all pairs, then all corners, then all legs. Assumes nothing.
use mathlib.Core.Path.{sym, ap, ◌∙◌}
use Rattle.refusals.specs.Sweep.{passed_of}
use Rattle.plan.specs.Places.{plan_point, plan_course}
use Rattle.plan.specs.Lent.{lent_plan}
use Rattle.plan.proofs.RuleLaws.{geometry-pairs, geometry-rest}
use Rattle.plan.proofs.lent.Lent.geometry.Goals as goal

pub all_apart-requires : goal.all_apart-requires
all_apart-requires c = (c.requires.0.counted, c.requires.1)

pub returns-then-all_apart : goal.returns-then-all_apart
returns-then-all_apart c =
    let p = lent_plan c.args.self.now in
    c.corners_and_legs.ensures
    ∙ ap passed_of (sym (geometry-rest p.head.mode p.head.radius p.head.count (plan_point p) (plan_course p) (sym c.all_apart.ensures ∙ c.if-all_apart.true)))

pub returns : goal.returns
returns c =
    let p = lent_plan c.args.self.now in
    c.pairs.ensures
    ∙ ap passed_of (sym (geometry-pairs p.head.mode p.head.radius p.head.count (plan_point p) (plan_course p) (sym c.all_apart.ensures ∙ c.if-all_apart.false)))
