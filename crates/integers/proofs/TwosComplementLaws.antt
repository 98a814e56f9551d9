-- Two's complement: each way undoes the other, and the bits of -1. Assumes nothing.
use mathlib.Core.Path.{◌≡◌, refl}
use Prim.Native.Nat.{ℕ, ◌<◌}
use lib.IntN.{ℤ, negsuc}
use mir.Syntax.{w32}
use mir.Val.{SFits}
use mir.Facts.{to_z-of_z, of_z-to_z}
use Rattle.integers.specs.declared.TheConstants.{MINUS_ONE}
use Rattle.integers.specs.TwosComplement.{signed_of, unsigned_of}

-- ---- each undoes the other, of what 32 bits hold
pub signed-unsigned : (z : ℤ) → SFits w32 z → signed_of (unsigned_of z) ≡ z
signed-unsigned z f = to_z-of_z f

pub unsigned_signed : (u : ℕ) → u < 4294967296 → unsigned_of (signed_of u) ≡ u
unsigned_signed u h = of_z-to_z {w = w32} (record { fits = h })

-- ---- the constant of the code; negsuc 0 is -1
pub minus-one : unsigned_of (negsuc 0) ≡ MINUS_ONE
minus-one = refl
