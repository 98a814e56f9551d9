-- Clauses 1.7, 2.8: to the nearest whole number. Assumes nothing.
use Rattle.std.specs.Prelude.{◌≡◌, suc, ◌+◌, ◌/◌, ℤ, pos, negsuc, neg_ℤ}

-- z / 16,384 to the nearest, halves away from zero; negsuc n is −(n + 1)
unfoldable pub nearest_of : ℤ → ℤ
nearest_of (pos n) = pos ((n + 8192) / 16384)
nearest_of (negsuc n) = neg_ℤ (pos ((suc n + 8192) / 16384))

-- a half on either side of 0 goes away from it, and less than a half, or than one and a half, does not
pub record HalvesAway : Type 0 where
  pub half : nearest_of (pos 8192) ≡ pos 1
  pub minus_half : nearest_of (negsuc 8191) ≡ negsuc 0
  pub under : nearest_of (pos 8191) ≡ pos 0
  pub minus_under : nearest_of (negsuc 24574) ≡ negsuc 0
