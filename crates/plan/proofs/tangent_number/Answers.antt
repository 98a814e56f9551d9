-- `tangent_number` gives refusal 12 of a leg between two fillets, from squares. Assumes nothing.
use mathlib.Core.Path.{ap}
use native.Mathlib.Nat.{mul-le-mul}
use native.Mathlib.Omega.{arith}
use Rattle.refusals.specs.Sweep.{noted}
use Rattle.plan.proofs.TangentNumberLaws.{leg-passes, leg-short}
use Rattle.plan.proofs.tangent_number.Goals as goal

pub overflow_mul-tangents : goal.overflow_mul-tangents
overflow_mul-tangents c = let h = c.requires in omega (arith, mul-le-mul h h)

pub returns-then-tangents-squared : goal.returns-then-tangents-squared
unfolding noted
returns-then-tangents-squared c = let s = c.args in λ a b e. ap noted (leg-passes a b s.squared s.tangents e c.if-tangents-squared.true)

pub returns : goal.returns
unfolding noted
returns c = let s = c.args in λ a b e. ap noted (leg-short a b s.squared s.tangents e c.if-tangents-squared.false)
