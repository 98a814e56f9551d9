-- The magnitude of a negation, a sum, a product, a quotient, a remainder and a square. Assumes nothing.
use mathlib.Core.Path.{◌≡◌, refl}
use mathlib.Core.Bool.{cond, true, false, Bool, not}
use Prim.Native.Nat.{ℕ, zero, suc, ◌+◌, ◌-◌, ◌*◌, ◌/◌, ◌%◌, ◌≤◌, ◌<◌}
use native.Mathlib.Nat.{le_refl}
use native.Mathlib.Omega.{arith}
use lib.Dec.{T, ltb, ltb→lt}
use lib.IntN.{ℤ, pos, negsuc, neg_ℤ, nat_abs, sub_ℕ, ◌+ℤ◌, ◌*ℤ◌}
use lib.Signed.{mag, quot_z, rem_z}

pub abs_neg : (z : ℤ) → nat_abs (neg_ℤ z) ≡ nat_abs z
abs_neg (pos zero) = refl
abs_neg (pos (suc n)) = refl
abs_neg (negsuc n) = refl

by_cond : (c : Bool) (x y : ℤ) (m : ℕ) → (T c → nat_abs x ≤ m) → (T (not c) → nat_abs y ≤ m) → nat_abs (cond c x y) ≤ m
by_cond true x y m f g = f tt
by_cond false x y m f g = g tt

abs-difference : (a b : ℕ) → nat_abs (sub_ℕ a b) ≤ a + b
abs-difference a b = by_cond (ltb a b) (negsuc (b - suc a)) (pos (a - b)) (a + b) (λ t. low a b (ltb→lt a b t)) (λ t. high a b)
  where
    low : (a b : ℕ) → a < b → suc (b - suc a) ≤ a + b
    low a b h = omega arith

    high : (a b : ℕ) → a - b ≤ a + b
    high a b = omega arith

pub abs-add : (y z : ℤ) → nat_abs (y +ℤ z) ≤ nat_abs y + nat_abs z
abs-add (pos a) (pos b) = le_refl (a + b)
abs-add (pos a) (negsuc b) = abs-difference a (suc b)
abs-add (negsuc a) (pos b) = omega (arith, abs-difference b (suc a))
abs-add (negsuc a) (negsuc b) = omega arith

pub abs-mul : (y z : ℤ) → nat_abs (y *ℤ z) ≡ nat_abs y * nat_abs z
abs-mul (pos a) (pos b) = refl
abs-mul (pos a) (negsuc b) = abs_neg (pos (a * suc b))
abs-mul (negsuc a) (pos b) = abs_neg (pos (suc a * b))
abs-mul (negsuc a) (negsuc b) = refl

pub abs-quot : (y z : ℤ) → nat_abs (quot_z y z) ≡ nat_abs y / nat_abs z
abs-quot (pos a) (pos b) = refl
abs-quot (pos a) (negsuc b) = abs_neg (pos (a / suc b))
abs-quot (negsuc a) (pos b) = abs_neg (pos (suc a / b))
abs-quot (negsuc a) (negsuc b) = refl

pub abs-rem : (y z : ℤ) → nat_abs (rem_z y z) ≡ nat_abs y % nat_abs z
abs-rem (pos a) z = refl
abs-rem (negsuc a) z = abs_neg (pos (suc a % nat_abs z))

pub square : (z : ℤ) → z *ℤ z ≡ pos (nat_abs z * nat_abs z)
square (pos n) = refl
square (negsuc n) = refl

-- `mag`, by which the machine's widths are bounded, is the magnitude or one less
pub mag-le : (z : ℤ) → mag z ≤ nat_abs z
mag-le (pos n) = le_refl n
mag-le (negsuc n) = omega arith
