-- Which floats have bits, and which bits are a float's: a number that passed a comparison is no NaN, and neither is a pattern below that of infinity.
-- Assumes nothing.
use mathlib.Core.Path.{◌≡◌, sym, ◌∙◌, subst}
use mathlib.Core.Bool.{Bool, true, not, true≢false}
use Prim.Native.Nat.{ℕ, ◌*◌, ◌%◌, ◌≤◌}
use native.Mathlib.Nat.{le_trans, mod-le}
use lib.Dec.{T}
use lib.Ieee.{Float, nan, inf, fin, binary64, le, is_nan, nan_bits, ones, hid, top}
use lib.Ieee.Bits.{nan_bits_above}
use borrow.Author.Tests.{le-ltb}

pub compared : (a x : Float) → le a x ≡ true → T (not (is_nan x))
unfolding le is_nan
compared a (inf s) h = tt
compared a (fin s m e) h = tt
compared nan nan h = absurd (true≢false (sym h))
compared (inf s) nan h = absurd (true≢false (sym h))
compared (fin s m e) nan h = absurd (true≢false (sym h))

-- the pattern of infinity, ones · hid, is 2047 · 2^52
pub plain-bits : (n : ℕ) → n ≤ 9218868437227405312 → T (not (nan_bits binary64 n))
plain-bits n h =
    subst (λ (b : Bool). T (not b))
    (sym (nan_bits_above binary64 n ∙ le-ltb (ones binary64 * hid binary64) (n % top binary64) (le_trans (mod-le n (top binary64)) h))) tt
