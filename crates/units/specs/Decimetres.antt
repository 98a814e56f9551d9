-- Clauses 1.7, 7.13, 9.1, 18.7: a float in metres as decimetres, and whether it is in range. Assumes nothing.
use Rattle.std.specs.Prelude.{ℕ, ◌+◌, ◌*◌, ◌/◌, Bool, true, false, ℤ, pos, neg_ℤ, leb, Float}
use Rattle.std.specs.Float.{nan, inf, fin}
use Rattle.std.specs.Float.Ieee.{up, down}

-- a / c to the nearest whole number, halves up
abbrev pub nearest_quotient : ℕ → ℕ → ℕ
nearest_quotient a c = (a * 2 + c) / (2 * c)

-- a size with its sign, true for a minus
abbrev pub signed : Bool → ℕ → ℤ
signed true n = neg_ℤ (pos n)
signed false n = pos n

-- fin s m e is the number m · up e / down e with the sign s. NaN and the infinities have no decimetres: 0 stands there.
unfoldable pub decimetres_of : Float → ℤ
decimetres_of nan = pos 0
decimetres_of (inf s) = pos 0
decimetres_of (fin s m e) = signed s (nearest_quotient (m * up e * 10) (down e))

-- 7.13: neither NaN nor infinite, and its exact value not beyond the limit
unfoldable pub in_limit : ℕ → Float → Bool
in_limit limit nan = false
in_limit limit (inf s) = false
in_limit limit (fin s m e) = leb (m * up e) (limit * down e)
