-- root_of n is the floor of the square root of n, at every n, and nothing else is. Assumes nothing.
use mathlib.Core.Path.{◌≡◌, refl}
use mathlib.Core.Bool.{Bool, true, false}
use Prim.Native.Nat.{ℕ, zero, suc, ◌+◌, ◌*◌, ◌/◌, ◌≤◌, ◌<◌}
use native.Mathlib.Nat.{mul-le-mul, lt_of_not-le, not-le_of_lt, le_antisymm, lt_of_le_of_lt}
use native.Mathlib.Omega.{arith}
use lib.Dec.{leb}
use borrow.Author.Tests.{leb-true, leb-false, le-leb, lt-leb}
use Rattle.conditions.specs.Choose.{choose}
use Rattle.integers.specs.Root.{IsRoot, next_root, root_by, root_of}

-- the next digit of the root is 1
pub digit-one : (n r : ℕ) → IsRoot (n / 4) r → (2 * r + 1) * (2 * r + 1) ≤ n → IsRoot n (2 * r + 1)
digit-one n r h k = record { low = k; high = omega arith }

-- or 0
pub digit-zero : (n r : ℕ) → IsRoot (n / 4) r → n < (2 * r + 1) * (2 * r + 1) → IsRoot n (2 * r)
digit-zero n r h k = record { low = omega arith; high = k }

next-is : (n r : ℕ) → IsRoot (n / 4) r → (t : Bool) → leb ((2 * r + 1) * (2 * r + 1)) n ≡ t → IsRoot n (choose t (2 * r + 1) (2 * r))
unfolding choose
next-is n r h true e = digit-one n r h (leb-true _ _ e)
next-is n r h false e = digit-zero n r h (leb-false _ _ e)

by-is : (k n : ℕ) → n ≤ k → IsRoot n (root_by k n)
unfolding root_by next_root
by-is zero n h = record { low = omega arith; high = omega arith }
by-is (suc k) zero h = record { low = omega arith; high = omega arith }
by-is (suc k) (suc m) h =
    let r = root_by k (suc m / 4) in
    next-is (suc m) r (by-is k (suc m / 4) (omega arith)) (leb ((2 * r + 1) * (2 * r + 1)) (suc m)) refl

pub root_is : (n : ℕ) → IsRoot n (root_of n)
unfolding root_of
root_is n = by-is n n (omega arith)

-- a square below a square
pub square-lt : (r b : ℕ) → r * r < b * b → r < b
square-lt r b h = lt_of_not-le (λ k. not-le_of_lt h (mul-le-mul k k))

at_most : (n r s : ℕ) → IsRoot n r → IsRoot n s → r ≤ s
at_most n r s p q = omega (arith, square-lt r (s + 1) (lt_of_le_of_lt p.low q.high))

pub root-only : (n r : ℕ) → IsRoot n r → r ≡ root_of n
root-only n r p = le_antisymm (at_most n r (root_of n) p (root_is n)) (at_most n (root_of n) r (root_is n) p)

-- the root of what lies below a square
pub root-lt : (n b : ℕ) → n < b * b → root_of n < b
root-lt n b h = square-lt (root_of n) b (lt_of_le_of_lt (root_is n).low h)

-- whether a number is at most a root, asked of its square
pub root-least : (n t : ℕ) → leb t (root_of n) ≡ leb (t * t) n
root-least n t = by-square (leb (t * t) n) refl
  where
    by-square : (b : Bool) → leb (t * t) n ≡ b → leb t (root_of n) ≡ b
    by-square true e = le-leb t (root_of n) (omega (arith, square-lt t (root_of n + 1) (lt_of_le_of_lt (leb-true (t * t) n e) (root_is n).high)))
    by-square false e = lt-leb t (root_of n) (root-lt n t (leb-false (t * t) n e))
