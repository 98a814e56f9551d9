-- Clauses 16.4, 16.5: numbers as ASCII text, and how such text is read. Assumes nothing.
use Rattle.std.specs.Prelude.{◌≡◌, List, [], ◌∷◌, ◌++◌, ℕ, zero, suc, ◌+◌, ◌-◌, ◌*◌, ◌/◌, ◌%◌, ◌≤◌, ◌<◌, ltb, eqb, ℤ, pos, negsuc, neg_ℤ, length, get_or}
use Rattle.conditions.specs.Choose.{choose}

-- the last digit behind those of a tenth of the number, in at most so many digits
unfoldable pub digits_in : ℕ → ℕ → List ℕ
digits_in zero n = []
digits_in (suc most) n = choose (ltb n 10) [] (digits_in most (n / 10)) ++ ((48 + n % 10) ∷ [])

-- no number has more digits than it counts, but 0
unfoldable pub decimal_of : ℕ → List ℕ
decimal_of n = digits_in (suc n) n

-- a minus sign before a negative number
unfoldable pub signed_text : ℤ → List ℕ
signed_text (pos n) = decimal_of n
signed_text (negsuc n) = 45 ∷ decimal_of (suc n)

-- 0 to 9, then a to f
unfoldable pub hex_digit : ℕ → ℕ
hex_digit d = choose (ltb d 10) (48 + d) (87 + d)

-- the last k hexadecimal digits, leading zeros among them
unfoldable pub hex_of : ℕ → ℕ → List ℕ
hex_of zero n = []
hex_of (suc k) n = hex_of k (n / 16) ++ (hex_digit (n % 16) ∷ [])

-- ---- read back
-- what decimal digits behind a number m make of it
unfoldable pub value : ℕ → List ℕ → ℕ
value m [] = m
value m (d ∷ ds) = value (m * 10 + (d - 48)) ds

pub record Digit (d : ℕ) : Type 0 where
  pub low : 48 ≤ d
  pub high : d ≤ 57

unfoldable pub Digits : List ℕ → Type 0
Digits [] = Unit {0}
Digits (d ∷ ds) = Digit d × Digits ds

-- a number in decimal: digits alone, one at least, worth the number, and no 0 leads others
pub record Decimal (n : ℕ) (text : List ℕ) : Type 0 where
  pub digits : Digits text
  pub some : 0 < length text
  pub reads : value 0 text ≡ n
  pub lead : 1 < length text → 48 < get_or text 0 0

unfoldable pub signed_value : List ℕ → ℤ
signed_value [] = pos 0
signed_value (d ∷ ds) = choose (eqb d 45) (neg_ℤ (pos (value 0 ds))) (pos (value 0 (d ∷ ds)))

unfoldable pub hex_digit_value : ℕ → ℕ
hex_digit_value d = choose (ltb d 58) (d - 48) (d - 87)

unfoldable pub hex_value : ℕ → List ℕ → ℕ
hex_value m [] = m
hex_value m (d ∷ ds) = hex_value (m * 16 + hex_digit_value d) ds
