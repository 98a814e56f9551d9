-- Clause 3.1: two's complement in 32 bits, both ways. Each undoes the other (proofs/TwosComplementLaws). Assumes nothing.
use Rattle.std.specs.Prelude.{ℕ, ℤ}
use Rattle.std.specs.Int.{w32}
use Rattle.std.proofs.Common.{to_z, of_z}

-- the signed number that 32 bits stand for
abbrev pub signed_of : ℕ → ℤ
signed_of u = to_z w32 u

-- the bits of a number
abbrev pub unsigned_of : ℤ → ℕ
unsigned_of z = of_z w32 z
