-- `tangent_exists` decides whether a case exists. Assumes nothing.
use mathlib.Core.Path.{sym, ap, ◌∙◌}
use native.Mathlib.Nat.{mul-le-mul}
use native.Mathlib.Omega.{arith}
use lib.Dec.{leb, ltb}
use Rattle.dubins.proofs.ExistenceLaws.{outer-test, inner-test}
use Rattle.dubins.proofs.tangent_exists.Goals as goal

pub overflow_mul-result-else-same_side : goal.overflow_mul-result-else-same_side
overflow_mul-result-else-same_side c =
    omega (arith, mul-le-mul c.requires.1 c.requires.1)

pub returns-then-same_side : goal.returns-then-same_side
returns-then-same_side c =
    let s = c.args in
    ap (ltb 0) c.squared-square.ensures.0
    ∙ sym (outer-test s.case s.radius s.v (sym c.same_side.ensures ∙ c.if-same_side.true))

pub returns-else-same_side : goal.returns-else-same_side
returns-else-same_side c =
    let s = c.args in
    ap (leb _) c.squared-square.ensures.0
    ∙ sym (inner-test s.case s.radius s.v (sym c.same_side.ensures ∙ c.if-same_side.false))
