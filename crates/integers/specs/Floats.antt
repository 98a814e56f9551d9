-- No clause: the bits of a float that is at least 0, and 0 of any other; a whole number as a float by its bits. For guesses, which whole numbers test.
-- Assumes nothing.
use Rattle.std.specs.Prelude.{ℕ, ◌+◌, Float}
use Rattle.std.specs.Float.{binary64}
use Rattle.std.specs.Float.Ieee.{le, sub, of_bits, to_bits}
use Rattle.conditions.specs.Choose.{choose}

-- 0.0 has the pattern 0. A NaN is not at least 0, and has no one pattern.
unfoldable pub bits_from : Float → ℕ
bits_from x = choose (le (of_bits binary64 0) x) (to_bits binary64 x) 0

-- a whole number in the last bits of a float from 2^52 on, and 2^52 taken away
unfoldable pub float_from : ℕ → Float
float_from n = sub binary64 (of_bits binary64 (n + 4841369599423283200)) (of_bits binary64 4841369599423283200)
