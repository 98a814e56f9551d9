-- Clauses 6.5, 17.5: a buffer of which some elements were replaced, its first ones or those from an offset on; all others are what they were.
-- Assumes nothing.
use Rattle.std.specs.Prelude.{List, ◌++◌, ℕ, ◌+◌, ℤ, pos, length, take, drop, replicate}

abbrev pub over : {A : Type 0} → List A → List A → List A
over new old = new ++ drop (length new) old

abbrev pub splice : {A : Type 0} → ℕ → List A → List A → List A
splice at new old = take at old ++ (new ++ drop (at + length new) old)

-- zeros in place of all numbers
unfoldable pub zeroed : List ℤ → List ℤ
zeroed old = replicate (length old) (pos 0)
