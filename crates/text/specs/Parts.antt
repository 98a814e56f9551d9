-- Clauses 16.3, 16.5: what lines are made of: a number behind a word, bytes, the bits of a float, a refusal. Assumes nothing.
use Rattle.std.specs.Prelude.{List, [], ◌++◌, ℕ, zero, suc, ℤ, length, get_or, Float}
use Rattle.std.specs.Float.{binary32}
use Rattle.std.specs.Float.Ieee.{to_bits}
use Rattle.text.specs.Ascii.{ascii}
use Rattle.text.specs.Digits.{decimal_of, signed_text, hex_of}

unfoldable pub count_text : List ℕ → ℕ → List ℕ
count_text word n = word ++ decimal_of n

unfoldable pub number_text : List ℕ → ℤ → List ℕ
number_text word z = word ++ signed_text z

-- the first bytes in hexadecimal, and all of them
unfoldable pub bytes_to : List ℕ → ℕ → List ℕ
bytes_to bytes zero = []
bytes_to bytes (suc i) = bytes_to bytes i ++ hex_of 2 (get_or bytes i 0)

unfoldable pub bytes_text : List ℕ → List ℕ
bytes_text bytes = bytes_to bytes (length bytes)

-- the pattern of a float; that of every NaN is 7fc00000
unfoldable pub float_text : Float → List ℕ
float_text x = hex_of 8 (to_bits binary32 x)

-- a refusal's number and place
unfoldable pub refusal_text : ℕ → ℕ → List ℕ
refusal_text number place = count_text (ascii "refused ") number ++ count_text (ascii " at ") place
