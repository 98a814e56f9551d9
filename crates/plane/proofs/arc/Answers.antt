-- `arc` gives the length of an arc, at most 125,633. Assumes nothing.
use native.Mathlib.Nat.{mul-le-mul}
use native.Mathlib.Omega.{arith}
use Rattle.plane.specs.Level.{arc_of}
use Rattle.plane.proofs.arc.Goals as goal

pub overflow_mul-result : goal.overflow_mul-result
overflow_mul-result c = omega (arith, mul-le-mul c.requires.0 c.requires.1)

pub overflow_mul-result-2 : goal.overflow_mul-result-2
overflow_mul-result-2 c = omega (arith, mul-le-mul c.requires.0 c.requires.1)

pub returns : goal.returns
unfolding arc_of
returns c = omega (arith, mul-le-mul c.requires.0 c.requires.1)
