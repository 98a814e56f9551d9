-- Clauses 2.1, 18.4: the sine table, from a series in exact whole numbers. Assumes nothing.
use Rattle.std.specs.Prelude.{◌≡◌, List, ℕ, zero, suc, ◌+◌, ◌-◌, ◌*◌, ◌/◌, ◌^◌, ◌≤◌, get_or}

-- numbers below are in units of 2^-128
abbrev pub unit : ℕ
unit = 2 ^ 128

-- 1/4096 of a circle, 2π / 4096, to the nearest such unit
abbrev pub arc : ℕ
arc = 521986613312972044853359557207944718

-- 1 − q / (m·(m+1)) · (1 − q / ((m+2)·(m+3)) · ( .. )), n factors
unfoldable pub series : ℕ → ℕ → ℕ → ℕ
series zero m q = unit
series (suc n) m q = unit - q * series n (m + 2) q / (unit * (m * (m + 1)))

-- 16,384 · sin x, where sin x = x · (1 − x²/6 · (1 − x²/20 · (1 − x²/42 · ..))), in units of 2^-256
unfoldable pub scaled_sine : ℕ → ℕ
scaled_sine x = 16384 * x * series 16 2 (x * x / unit)

-- to the nearest whole number
unfoldable pub sine_of : ℕ → ℕ
sine_of k = (scaled_sine (k * arc) + unit * unit / 2) / (unit * unit)

-- for proofs alone: that a list has S[k] at every k
abbrev pub Sines : List ℕ → Type 0
Sines xs = (k : ℕ) → k ≤ 1024 → get_or xs k 0 ≡ sine_of k

-- ---- that these are sines

-- Machin: π/4 = 4·arctan(1/5) − arctan(1/239), so that 2π/4096 is that over 512. The first n terms of x·arctan(1/x) are
-- 1/m − (1/(m+2) − (1/(m+4) − ..)/x²)/x² with m = 1
unfoldable pub odd : ℕ → ℕ → ℕ → ℕ
odd zero m x = 0
odd (suc n) m x = unit / m - odd n (m + 2) x / (x * x)

unfoldable pub arctan : ℕ → ℕ
arctan x = odd 30 1 x / x

unfoldable pub machin : ℕ
machin = (4 * arctan 5 - arctan 239) / 512

-- half a whole number less 1/8192, in units of 2^-256
abbrev pub reach : ℕ
reach = unit * unit / 2 - unit * unit / 8192

-- The arc is Machin's, and no value comes within 1/8192 of a half: what the series leaves out is about 2^-96, so that it changes no entry.
pub record AreSines : Type 0 where
  pub arc_most : arc ≤ machin + 1
  pub arc_least : machin ≤ arc + 1
  pub above : (k : ℕ) → k ≤ 1024 → sine_of k * (unit * unit) ≤ scaled_sine (k * arc) + reach
  pub below : (k : ℕ) → k ≤ 1024 → scaled_sine (k * arc) ≤ sine_of k * (unit * unit) + reach
