-- `turns_number` gives refusal 12 of a leg from the turns at its ends, with no tangent length where two easy turns would fit. Assumes nothing.
use mathlib.Core.Path.{ap, ◌∙◌}
use native.Mathlib.Omega.{arith}
use Prim.Native.Nat.{◌+◌}
use Rattle.refusals.specs.Sweep.{noted}
use Rattle.plan.specs.Rules.{tangent_number}
use Rattle.plan.proofs.TangentNumberLaws.{easy-passes}
use Rattle.plan.proofs.turns_number.Goals as goal

pub returns-then-after-le-EASY_TURN : goal.returns-then-after-le-EASY_TURN
unfolding noted
returns-then-after-le-EASY_TURN c =
    let s = c.args in
    λ a b h. ap noted (easy-passes a b s.squared s.radius s.before s.after h (omega (arith, c.if-before-le-EASY_TURN.true)) (omega (arith, c.if-after-le-EASY_TURN.true))
    (omega (arith, c.easy_square.ensures, c.if-easy_square-squared.true)))

pub returns : goal.returns
returns c =
    λ a b e. c.tangent_number.ensures a b e ∙ (λ t. noted (tangent_number a b (c.tangent_length-first.ensures.value t + c.tangent_length-second.ensures.value t)))
