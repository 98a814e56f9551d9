-- A vector by the signs and magnitudes of its parts: which quarter turn of two naturals it is. Assumes nothing.
use mathlib.Core.Path.{◌≡◌, refl}
use Prim.Native.Nat.{zero, suc, ◌<◌}
use native.Mathlib.Omega.{arith}
use lib.Dec.{ltb→lt, leb→le}
use lib.IntN.{ℤ, pos, negsuc, nat_abs}
use lib.Signed.{◌≤ℤ◌, ◌<ℤ◌}
use Rattle.course.specs.Vectors.{plain}
use Rattle.course.specs.Direction.{quarter, turned}

-- a number of which a sign is known is none, or has a magnitude
pub nought : (z : ℤ) → z ≤ℤ pos 0 → pos 0 ≤ℤ z → z ≡ pos 0
nought (pos zero) h k = refl
nought (pos (suc n)) h k = absurd (omega (arith, leb→le (suc n) 0 h.le))
nought (negsuc n) h k = absurd k.le

pub positive-size : (z : ℤ) → pos 0 <ℤ z → 0 < nat_abs z
positive-size (pos n) h = ltb→lt 0 n h.lt
positive-size (negsuc n) h = absurd h.lt

pub negative-size : (z : ℤ) → z <ℤ pos 0 → 0 < nat_abs z
negative-size (pos n) h = absurd (omega (arith, ltb→lt n 0 h.lt))
negative-size (negsuc n) h = omega arith

-- the four quarters, each with the axis that begins it
pub north-east : (n e : ℤ) → pos 0 <ℤ n → pos 0 ≤ℤ e → turned 0 (plain (nat_abs n) (nat_abs e)) ≡ record { north = n; east = e }
unfolding turned
north-east (pos n) (pos e) h k = refl
north-east (pos n) (negsuc e) h k = absurd k.le
north-east (negsuc n) e h k = absurd h.lt

pub south-east : (n e : ℤ) → n ≤ℤ pos 0 → pos 0 <ℤ e → turned 1 (plain (nat_abs e) (nat_abs n)) ≡ record { north = n; east = e }
unfolding turned quarter
south-east n (negsuc e) h k = absurd k.lt
south-east (pos zero) (pos e) h k = refl
south-east (pos (suc n)) (pos e) h k = absurd (omega (arith, leb→le (suc n) 0 h.le))
south-east (negsuc n) (pos e) h k = refl

pub south-west : (n e : ℤ) → n <ℤ pos 0 → e ≤ℤ pos 0 → turned 2 (plain (nat_abs n) (nat_abs e)) ≡ record { north = n; east = e }
unfolding turned quarter
south-west (pos n) e h k = absurd (omega (arith, ltb→lt n 0 h.lt))
south-west (negsuc n) (pos zero) h k = refl
south-west (negsuc n) (pos (suc e)) h k = absurd (omega (arith, leb→le (suc e) 0 k.le))
south-west (negsuc n) (negsuc e) h k = refl

pub north-west : (n e : ℤ) → pos 0 ≤ℤ n → e <ℤ pos 0 → turned 3 (plain (nat_abs e) (nat_abs n)) ≡ record { north = n; east = e }
unfolding turned quarter
north-west n (pos e) h k = absurd (omega (arith, ltb→lt e 0 k.lt))
north-west (pos zero) (negsuc e) h k = refl
north-west (pos (suc n)) (negsuc e) h k = refl
north-west (negsuc n) (negsuc e) h k = absurd h.le
