-- Bounds of level vectors, their products, squares and roots. Assumes nothing.
use mathlib.Core.Path.{◌≡◌, refl}
use Prim.Native.Nat.{ℕ, zero, suc, ◌+◌, ◌*◌, ◌≤◌}
use native.Mathlib.Omega.{arith}
use lib.IntN.{ℤ, pos, negsuc, nat_abs, ◌+ℤ◌, ◌*ℤ◌}
use Rattle.integers.specs.Bounds.{Within}
use Rattle.integers.proofs.BoundLaws.{within-plus, within-less, within-mul}
use Rattle.integers.proofs.Magnitudes.{square}
use Rattle.integers.proofs.RootLaws.{root-lt}
use Rattle.course.specs.declared.Vector.{Vector}
use Rattle.course.specs.Vectors.{Near, plain, cross}
use Rattle.course.proofs.VectorLaws.{vector}
use Rattle.plane.specs.declared.Point.{Point}
use Rattle.plane.specs.Area.{InArea, level_of}
use Rattle.plane.specs.Level.{plus, minus, level_leg_of, dot_of, square_of, vector_length}

pub plus-near : (a b : Vector) {m n : ℕ} → Near m a → Near n b → Near (m + n) (plus a b)
unfolding plus
plus-near a b h k = record { north = within-plus a.north b.north h.north k.north; east = within-plus a.east b.east h.east k.east }

pub minus-near : (a b : Vector) {m n : ℕ} → Near m a → Near n b → Near (m + n) (minus a b)
unfolding minus
minus-near a b h k = record { north = within-less a.north b.north h.north k.north; east = within-less a.east b.east h.east k.east }

pub level-leg-near : (a b : Point) → InArea a → InArea b → Near 1000000 (level_leg_of a b)
unfolding level_leg_of level_of
level-leg-near a b h k = minus-near (level_of b) (level_of a) (record { north = k.north; east = k.east }) (record { north = h.north; east = h.east })

pub dot-within : (a b : Vector) {m n : ℕ} → Near m a → Near n b → Within (m * n + m * n) (dot_of a b)
unfolding dot_of
dot-within a b h k =
    within-plus (a.north *ℤ b.north) (a.east *ℤ b.east) (within-mul a.north b.north h.north k.north) (within-mul a.east b.east h.east k.east)

pub cross-within : (a b : Vector) {m n : ℕ} → Near m a → Near n b → Within (m * n + m * n) (cross a b)
unfolding cross
cross-within a b h k =
    within-less (a.north *ℤ b.east) (a.east *ℤ b.north) (within-mul a.north b.east h.north k.east) (within-mul a.east b.north h.east k.north)

pub square_le : (v : Vector) {n : ℕ} → Near n v → square_of v ≤ n * n + n * n
unfolding square_of
square_le v h = (dot-within v v h h).within

-- v·v is a sum of two squares of naturals
pub square-sum : (v : Vector) → square_of v ≡ nat_abs v.north * nat_abs v.north + nat_abs v.east * nat_abs v.east
unfolding square_of dot_of
square-sum v = λ i. nat_abs (square v.north i +ℤ square v.east i)

-- v·v is 0 only of (0, 0)
pub square-zero : (v : Vector) → square_of v ≡ 0 → v ≡ plain 0 0
square-zero v h = vector (zero_of v.north (omega (arith, square-sum v))) (zero_of v.east (omega (arith, square-sum v)))
  where
    zero_of : (z : ℤ) → nat_abs z * nat_abs z ≡ 0 → z ≡ pos 0
    zero_of (pos zero) h = refl
    zero_of (pos (suc n)) h = absurd (omega arith)
    zero_of (negsuc n) h = absurd (omega arith)

pub length-le : (v : Vector) → Near 2000000 v → vector_length v ≤ 2828427
unfolding vector_length
length-le v h = omega (arith, root-lt (square_of v) 2828428 (omega (arith, square_le v h)))
