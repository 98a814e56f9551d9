-- The sign of x where c·x = m·y + n·z, c and m are positive and n is not negative: that of y and z. Assumes nothing.
use mathlib.Core.Path.{◌≡◌}
use native.Mathlib.Nat.{mul-le-mul_left}
use native.Mathlib.Omega.{arith}
use lib.IntN.{ℤ, pos, negsuc, ◌+ℤ◌, ◌*ℤ◌}
use lib.Signed.{◌≤ℤ◌, ◌<ℤ◌}
use Rattle.integers.proofs.Ring.{v, lit, add, mul, same_of, le, le_of, lt, lt_of}

-- the factors are positive, or not negative
pub record Factors (c m n : ℤ) : Type 0 where
  pub whole : pos 0 <ℤ c
  pub first : pos 0 <ℤ m
  pub second : pos 0 ≤ℤ n

pub not_negative : (c m n y z x : ℤ) → Factors c m n → c *ℤ x ≡ m *ℤ y +ℤ n *ℤ z → pos 0 ≤ℤ y → pos 0 ≤ℤ z → pos 0 ≤ℤ x
not_negative (negsuc c) m n y z x f e h k = absurd f.whole.lt
not_negative (pos c) (negsuc m) n y z x f e h k = absurd f.first.lt
not_negative (pos c) (pos m) (negsuc n) y z x f e h k = absurd f.second.le
not_negative (pos c) (pos m) (pos n) (negsuc y) z x f e h k = absurd h.le
not_negative (pos c) (pos m) (pos n) (pos y) (negsuc z) x f e h k = absurd k.le
not_negative (pos c) (pos m) (pos n) (pos y) (pos z) (pos x) f e h k = le (lit 0) (lit x) (omega arith)
not_negative (pos c) (pos m) (pos n) (pos y) (pos z) (negsuc x) f e h k =
    absurd (omega (arith, same_of (mul (lit c) (v (negsuc x))) (add (mul (lit m) (lit y)) (mul (lit n) (lit z))) e, lt_of (lit 0) (lit c) f.whole))

pub negative : (c m n y z x : ℤ) → Factors c m n → c *ℤ x ≡ m *ℤ y +ℤ n *ℤ z → y <ℤ pos 0 → z ≤ℤ pos 0 → x <ℤ pos 0
negative (negsuc c) m n y z x f e h k = absurd f.whole.lt
negative (pos c) (negsuc m) n y z x f e h k = absurd f.first.lt
negative (pos c) (pos m) (negsuc n) y z x f e h k = absurd f.second.le
negative (pos c) (pos m) (pos n) (pos y) z x f e h k = absurd (omega (arith, lt_of (lit y) (lit 0) h))
negative (pos c) (pos m) (pos n) (negsuc y) z (negsuc x) f e h k = lt (v (negsuc x)) (lit 0) (omega arith)
negative (pos c) (pos m) (pos n) (negsuc y) z (pos x) f e h k =
    absurd (omega (arith, mul-le-mul_left n (le_of (v z) (lit 0) k), same_of (mul (lit c) (lit x)) (add (mul (lit m) (v (negsuc y))) (mul (lit n) (v z))) e, lt_of (lit 0) (lit m) f.first))
