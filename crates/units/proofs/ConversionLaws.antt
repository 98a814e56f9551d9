-- A whole number up to 2^24 in size is converted to f32 exactly, also where the machine reads it from its bits. Assumes nothing.
use mathlib.Core.Path.{◌≡◌}
use mathlib.Core.Bool.{true, false, not}
use Prim.Native.Nat.{ℕ, suc}
use lib.IntN.{ℤ, pos, negsuc, nat_abs}
use lib.Signed.{non_neg}
use lib.Dec.{T, leb, le→leb, lt→ltb}
use lib.Ieee.{binary32, of_int, in_float}
use lib.Ieee.Exact.{HasValue}
use lib.Ieee.Back.{round_whole}
use mir.Syntax.{w64}
use mir.Val.{to_z, of_z}
use Rattle.integers.specs.Bounds.{Within}
use Rattle.integers.proofs.BoundLaws.{kept, within-weaken}

pub read_back : {n : ℕ} {z : ℤ} → Within n z → T (leb n 16777216) → to_z w64 (of_z w64 z) ≡ z
read_back h t = kept w64 (within-weaken h t) tt

pub in-float : {n : ℕ} {z : ℤ} → Within n z → T (leb n 16777216) → T (in_float binary32 (to_z w64 (of_z w64 z)))
unfolding in_float
in-float {n} {z} h t = rw (read_back h t) (exact z (within-weaken h t))
  where
    exact : (y : ℤ) → Within 16777216 y → T (in_float binary32 y)
    exact (pos k) g = le→leb k 16777216 g.within
    exact (negsuc k) g = lt→ltb k 16777216 g.within

pub converted : (z : ℤ) → Within 16777216 z → HasValue (of_int binary32 z) (not (non_neg z)) (nat_abs z) 1
unfolding of_int
converted (pos n) h = round_whole binary32 false n h.within
converted (negsuc n) h = round_whole binary32 true (suc n) h.within
