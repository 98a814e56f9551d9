-- `direction_part` gives x / 16,384, exactly, which is a plain number. Assumes nothing.
use mathlib.Core.Path.{◌≡◌, refl}
use lib.IntN.{pos}
use lib.Ieee.{binary32, of_bits, of_int}
use Rattle.units.specs.Metres.{direction_part_of}
use Rattle.units.proofs.ConversionLaws.{in-float}
use Rattle.units.proofs.QuotientLaws.{quotient-read, direction-promise}
use Rattle.units.proofs.direction_part.Goals as goal

-- the code's 16384.0
scale : of_bits binary32 0x4680_0000 ≡ of_int binary32 (pos 16384)
unfolding of_bits of_int
scale = refl

pub int_to_float-result : goal.int_to_float-result
int_to_float-result c = in-float c.requires tt

pub returns : goal.returns
unfolding direction_part_of
returns c = direction-promise c.requires (quotient-read 16384 scale c.requires tt)
