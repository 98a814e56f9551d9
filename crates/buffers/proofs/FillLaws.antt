-- Zeros in place of all numbers, by their number. Assumes nothing.
use mathlib.Core.Path.{◌≡◌}
use mathlib.Core.List.{List}
use Prim.Native.Nat.{ℕ}
use lib.IntN.{ℤ, pos}
use lib.ListN.{length, replicate, length-replicate}
use Rattle.buffers.specs.Splice.{zeroed}

pub zeros_of : (old : List ℤ) (n : ℕ) → length old ≡ n → zeroed old ≡ replicate n (pos 0)
unfolding zeroed
zeros_of old n e = rw e

pub zeros-length : (old : List ℤ) → length (zeroed old) ≡ length old
unfolding zeroed
zeros-length old = length-replicate (length old) (pos 0)
