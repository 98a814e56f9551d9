-- Clauses 9.4, 9.5, 15.14, 18.7: whole numbers as f32 metres, and a direction's parts as f32. Assumes nothing.
use Rattle.std.specs.Prelude.{◌≡◌, Bool, true, false, not, ℕ, T, ℤ, pos, nat_abs, Float}
use Rattle.std.specs.Int.Signed.{non_neg}
use Rattle.std.specs.Float.{nan, inf, fin, binary32}
use Rattle.std.specs.Float.Ieee.{div, fits, is_nan, of_int, to_bits}
use Rattle.std.specs.Float.Ieee.Exact.{HasValue}

-- z / c: both are converted, and the quotient is rounded. Up to 2^24 in size the conversions are exact.
unfoldable pub quotient_of : ℤ → ℕ → Float
quotient_of z c = div binary32 (of_int binary32 z) (of_int binary32 (pos c))

unfoldable pub metres_of : ℤ → Float
metres_of d = quotient_of d 10

unfoldable pub direction_part_of : ℤ → Float
direction_part_of x = quotient_of x 16384

-- x is z / c exactly
abbrev pub Exactly : Float → ℤ → ℕ → Type 0
Exactly x z c = HasValue x (not (non_neg z)) (nat_abs z) c

-- 15.14: an f32 that is a finite number and not −0.0
pub record Plain (x : Float) : Type 0 where
  pub held : T (fits binary32 x)
  pub number : is_nan x ≡ false
  pub finite : (s : Bool) → x ≡ inf s → ⊥
  pub no-minus-zero : (e : ℤ) → x ≡ fin true 0 e → ⊥

-- what it is to be plain, said from outside: each field of Plain is needed here
pub record PlainMeans : Type 0 where
  pub no_nan : Plain nan → ⊥
  pub no-infinity : (s : Bool) → Plain (inf s) → ⊥
  pub no-minus-zero : Plain (fin true 0 (pos 0)) → ⊥
  pub same_bits : (x y : Float) → Plain x → Plain y → to_bits binary32 x ≡ to_bits binary32 y → x ≡ y
