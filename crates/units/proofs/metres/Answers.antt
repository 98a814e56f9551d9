-- `metres` gives d / 10, rounded once, which is a plain number. Assumes nothing.
use mathlib.Core.Path.{◌≡◌, refl}
use lib.IntN.{pos}
use lib.Ieee.{binary32, of_bits, of_int}
use Rattle.units.specs.Metres.{metres_of}
use Rattle.units.proofs.ConversionLaws.{in-float}
use Rattle.units.proofs.QuotientLaws.{quotient-read, metres-promise}
use Rattle.units.proofs.metres.Goals as goal

-- the code's 10.0
ten : of_bits binary32 0x4120_0000 ≡ of_int binary32 (pos 10)
unfolding of_bits of_int
ten = refl

pub int_to_float-result : goal.int_to_float-result
int_to_float-result c = in-float c.requires tt

pub returns : goal.returns
unfolding metres_of
returns c = metres-promise c.requires (quotient-read 10 ten c.requires tt)
