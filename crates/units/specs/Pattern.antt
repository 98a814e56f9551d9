-- Clause 18.7: 9.1 by the float's bits: the fields of an f32's pattern, and the size that they stand for. For proofs alone. Assumes nothing.
use Rattle.std.specs.Prelude.{ℕ, zero, suc, ◌+◌, ◌*◌, ◌/◌, ◌%◌, ◌^◌}
use Rattle.units.specs.Decimetres.{nearest_quotient}

-- the exponent's field
abbrev pub field_of : ℕ → ℕ
field_of bits = bits / 8388608 % 256

-- the 23 digits below the leading one
abbrev pub digits_of : ℕ → ℕ
digits_of bits = bits % 8388608

-- the size of a finite float in units of 2^-149, by its field and its digits
unfoldable pub units_of : ℕ → ℕ → ℕ
units_of zero digits = digits
units_of (suc j) digits = (8388608 + digits) * 2 ^ j

-- and in decimetres
unfoldable pub unsigned_decimetres : ℕ → ℕ
unsigned_decimetres bits = nearest_quotient (units_of (field_of bits) (digits_of bits) * 10) (2 ^ 149)
