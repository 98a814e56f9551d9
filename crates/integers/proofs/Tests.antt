-- A signed test of the code as an order. Assumes nothing.
use mathlib.Core.Path.{◌≡◌, sym, subst}
use mathlib.Core.Bool.{Bool, true, false, not}
use lib.Dec.{T}
use lib.IntN.{ℤ}
use lib.Signed.{lt_z, ◌≤ℤ◌, ◌<ℤ◌, lt_z_yes, lt_z_no}

true-T : (t : Bool) → t ≡ true → T t
true-T t e = subst T (sym e) tt

false-T : (t : Bool) → t ≡ false → T (not t)
false-T t e = subst (λ (b : Bool). T (not b)) (sym e) tt

-- ---- what a branch tells
pub lt_yes : (y z : ℤ) → lt_z y z ≡ true → y <ℤ z
lt_yes y z e = lt_z_yes (true-T (lt_z y z) e)

pub lt_no : (y z : ℤ) → lt_z y z ≡ false → z ≤ℤ y
lt_no y z e = lt_z_no (false-T (lt_z y z) e)
