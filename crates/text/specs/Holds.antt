-- Holds clauses 16.3 to 16.5: each text reads back as what it was made of, a number has one decimal text, and examples. Assumes nothing.
use Rattle.std.specs.Prelude.{◌≡◌, List, [], ◌∷◌, ℕ, ◌^◌, ◌<◌, ℤ, negsuc, length}
use Rattle.std.specs.Float.{nan, binary32}
use Rattle.std.specs.Float.Ieee.{of_bits}
use Rattle.text.specs.Ascii.{ascii}
use Rattle.text.specs.Digits.{decimal_of, signed_text, hex_of, Decimal, signed_value, hex_value}
use Rattle.text.specs.Parts.{bytes_text, float_text, refusal_text}

pub record DecimalHolds : Type 0 where
  pub is : (n : ℕ) → Decimal n (decimal_of n)
  pub only : (n : ℕ) (text : List ℕ) → Decimal n text → text ≡ decimal_of n
  pub nought : decimal_of 0 ≡ ascii "0"
  pub most : decimal_of 4095 ≡ ascii "4095"

pub record SignedHolds : Type 0 where
  pub reads : (z : ℤ) → signed_value (signed_text z) ≡ z
  pub minus : signed_text (negsuc 999) ≡ ascii "-1000"

pub record HexHolds : Type 0 where
  pub reads : (k n : ℕ) → n < 16 ^ k → hex_value 0 (hex_of k n) ≡ n
  pub many : (k n : ℕ) → length (hex_of k n) ≡ k
  pub digits : hex_of 8 0xC0FFEE ≡ ascii "00c0ffee"

pub record BytesHold : Type 0 where
  pub digits : bytes_text (0 ∷ 10 ∷ 255 ∷ []) ≡ ascii "000aff"

pub record FloatHolds : Type 0 where
  -- 1.5, and a NaN
  pub plain : float_text (of_bits binary32 0x3FC0_0000) ≡ ascii "3fc00000"
  pub not-one : float_text nan ≡ ascii "7fc00000"

-- 16.3: number 6, place 11
pub record RefusalHolds : Type 0 where
  pub line : refusal_text 6 11 ≡ ascii "refused 6 at 11"
