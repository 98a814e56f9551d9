-- nearest_of by the magnitude and the sign, as the code works it out, at halves, and its bound. Assumes nothing.
use mathlib.Core.Path.{◌≡◌, refl}
use Prim.Native.Nat.{ℕ, suc, ◌+◌, ◌*◌, ◌/◌}
use native.Mathlib.Omega.{arith}
use lib.Dec.{ltb→lt}
use lib.IntN.{ℤ, pos, negsuc, neg_ℤ, nat_abs}
use lib.Signed.{◌≤ℤ◌, ◌<ℤ◌}
use Rattle.integers.specs.Bounds.{Within}
use Rattle.integers.specs.Round.{nearest_of, HalvesAway}
use Rattle.integers.proofs.Magnitudes.{abs_neg}

pub nearest-neg : (z : ℤ) → z <ℤ pos 0 → neg_ℤ (pos ((nat_abs z + 8192) / 16384)) ≡ nearest_of z
unfolding nearest_of
nearest-neg (pos n) h = absurd (omega (arith, ltb→lt n 0 h.lt))
nearest-neg (negsuc n) h = refl

pub nearest-pos : (z : ℤ) → pos 0 ≤ℤ z → pos ((nat_abs z + 8192) / 16384) ≡ nearest_of z
unfolding nearest_of
nearest-pos (pos n) h = refl
nearest-pos (negsuc n) h = absurd h.le

pub halves-away : HalvesAway
unfolding nearest_of
halves-away = record { half = refl; minus_half = refl; under = refl; minus_under = refl }

-- rounding does not pass a whole number
pub nearest-within : (m : ℕ) (z : ℤ) → Within (m * 16384) z → Within m (nearest_of z)
unfolding nearest_of
nearest-within m (pos n) h = record { within = omega (arith, h.within) }
nearest-within m (negsuc n) h = record { within = omega (arith, h.within, abs_neg (pos ((suc n + 8192) / 16384))) }
