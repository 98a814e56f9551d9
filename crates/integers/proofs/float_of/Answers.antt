-- `float_of` makes a float of a whole number by its bits, which are no NaN's. Assumes nothing.
use mathlib.Core.Path.{refl}
use native.Mathlib.Omega.{arith}
use lib.Ieee.{of_bits}
use Rattle.integers.specs.Floats.{float_from}
use Rattle.integers.proofs.FloatLaws.{plain-bits}
use Rattle.integers.proofs.float_of.Goals as goal

pub float_from_bits-result : goal.float_from_bits-result
float_from_bits-result c = plain-bits _ (omega (arith, c.requires))

pub returns : goal.returns
unfolding float_from of_bits
returns c = refl
