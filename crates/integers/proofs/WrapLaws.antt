-- Laws of wrap_of: its range, and what it is of sums and differences of courses. Assumes nothing.
use mathlib.Core.Path.{◌≡◌, refl, ap, ◌∙◌}
use Prim.Native.Nat.{ℕ, zero, suc, ◌+◌, ◌-◌, ◌%◌, ◌<◌, ◌≤◌}
use native.Mathlib.Decide.{dec_lt}
use native.Mathlib.Omega.{arith}
use lib.IntN.{ℤ, pos, negsuc, nat_abs, ◌+ℤ◌, ◌-ℤ◌}
use Rattle.std.specs.Int.{int_rem_euclid}
use Rattle.integers.specs.Wrap.{wrap_of}
use Rattle.integers.proofs.Ring.{lit, neg, sub, same, diff-le}

pub wrap-lt : (z : ℤ) → wrap_of z < 4096
unfolding wrap_of
wrap-lt (pos n) = omega arith
wrap-lt (negsuc n) = omega arith

-- a result that is a course, and so below 4,096
pub wrap-low : {r : ℕ} (z : ℤ) → r ≡ wrap_of z → (r ≡ wrap_of z) × (r < 4096)
wrap-low z e = (e, omega (arith, e, wrap-lt z))

-- what the code computes
pub rem-is : (z : ℤ) → nat_abs (int_rem_euclid z (pos 4096)) ≡ wrap_of z
unfolding wrap_of
rem-is (pos n) = refl
rem-is (negsuc n) = omega arith

-- two courses
pub wrap-add : (a b : ℕ) → wrap_of (pos a +ℤ pos b) ≡ (a + b) % 4096
unfolding wrap_of
wrap-add a b = refl

wrap-less : (d : ℕ) → 0 < d → d ≤ 4095 → (a b : ℕ) → b ≡ a + d → wrap_of (pos a -ℤ pos b) ≡ (a + 4096 - b) % 4096
unfolding wrap_of
wrap-less zero l h a b e = absurd (omega arith)
wrap-less (suc d) l h a b e = ap wrap_of (same (sub (lit a) (lit b)) (neg (lit (suc d))) (omega arith)) ∙ omega arith

sub_dec : (a b : ℕ) → b ≤ 4095 → Dec (a < b) → wrap_of (pos a -ℤ pos b) ≡ (a + 4096 - b) % 4096
unfolding wrap_of
sub_dec a b h (yes p) = wrap-less (b - a) (omega arith) (omega arith) a b (omega arith)
sub_dec a b h (no p) = ap wrap_of (diff-le a b (omega arith)) ∙ omega arith

pub wrap-sub : (a b : ℕ) → b ≤ 4095 → wrap_of (pos a -ℤ pos b) ≡ (a + 4096 - b) % 4096
wrap-sub a b h = sub_dec a b h (dec_lt a b)
