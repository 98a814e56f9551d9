-- `line_corner_number` gives refusal 11 of a corner between lines. Assumes nothing.
use mathlib.Core.Path.{◌≡◌, sym, ◌∙◌}
use Rattle.conditions.specs.Choose.{choose}
use Rattle.refusals.specs.Sweep.{noted}
use Rattle.plane.specs.Area.{leg_of}
use Rattle.plane.specs.Half.{opposite_of}
use Rattle.plan.specs.Rules.{corner_number}
use Rattle.plan.proofs.line_corner_number.Goals as goal
use Rattle.plan.proofs.line_corner_number.Goals.{After-opposite}

opposed : (c : After-opposite)
    → c.opposite.result ≡ opposite_of (leg_of c.args.a c.args.b) (leg_of c.args.b c.args.c)
opposed c = c.opposite.ensures ∙ (λ i. opposite_of (c.leg_between.ensures.0 i) (c.leg_between-2.ensures.0 i))

pub returns-then-opposite : goal.returns-then-opposite
unfolding corner_number choose noted
returns-then-opposite c = rw (sym (opposed (goal.at.returns-then-opposite c).After-opposite) ∙ c.if-opposite.true)

pub returns : goal.returns
unfolding corner_number choose noted
returns c = rw (sym (opposed (goal.at.returns c).After-opposite) ∙ c.if-opposite.false)
