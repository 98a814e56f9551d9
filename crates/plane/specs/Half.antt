-- Clauses 7.11, 10.2: the half-plane at a point between two legs, and legs that run against each other. Assumes nothing.
use Rattle.std.specs.Prelude.{◌≡◌, Bool, true, false, ◌&&◌, ℕ, ◌+◌, ◌*◌, leb, eqb, ℤ, pos, negsuc, nat_abs, ◌+ℤ◌, ◌-ℤ◌, ◌*ℤ◌}
use Rattle.std.specs.Int.Signed.{le_z, lt_z}
use Rattle.conditions.specs.Choose.{choose}
use Rattle.plane.specs.declared.Leg.{Leg}

-- a·b in three dimensions
unfoldable pub dot3_of : Leg → Leg → ℤ
dot3_of a b = a.north *ℤ b.north +ℤ a.east *ℤ b.east +ℤ a.down *ℤ b.down

-- a·a, which is never negative
unfoldable pub square3_of : Leg → ℕ
square3_of a = nat_abs (dot3_of a a)

-- z²·k
abbrev pub square_times : ℤ → ℕ → ℕ
square_times z k = nat_abs z * nat_abs z * k

-- 10.2: x/√A + y/√B ≥ 0 without a root or a fraction
unfoldable pub half_plane : ℤ → ℤ → ℕ → ℕ → Bool
half_plane x y A B =
    choose (le_z (pos 0) x)
    (choose (le_z (pos 0) y) true (leb (square_times y A) (square_times x B)))
    (choose (le_z (pos 0) y) (leb (square_times x B) (square_times y A)) false)

-- for proofs alone, worked out by hand, with legs of 1,000 and 2,000: behind both, at the boundary on either side, and just short of it
pub record HandHalves : Type 0 where
  pub behind : half_plane (negsuc 0) (negsuc 0) 1000000 4000000 ≡ false
  pub before : half_plane (negsuc 999) (pos 2000) 1000000 4000000 ≡ true
  pub beside : half_plane (pos 1000) (negsuc 1999) 1000000 4000000 ≡ true
  pub short : half_plane (pos 1000) (negsuc 2000) 1000000 4000000 ≡ false

-- 10.2: of d, the position less the point, and of the legs before and after it
unfoldable pub met_of : Leg → Leg → Leg → Bool
met_of d a b = half_plane (dot3_of d a) (dot3_of d b) (square3_of a) (square3_of b)

-- |a·d − b·c|
unfoldable pub minor_size : ℤ → ℤ → ℤ → ℤ → ℕ
minor_size a b c d = nat_abs (a *ℤ d -ℤ b *ℤ c)

-- 0 exactly where the cross product of a and b is 0, that is where they are parallel
unfoldable pub cross_size : Leg → Leg → ℕ
cross_size a b =
    minor_size a.east a.down b.east b.down
    + minor_size a.down a.north b.down b.north
    + minor_size a.north a.east b.north b.east

-- 7.11: parallel, with a negative dot product
unfoldable pub opposite_of : Leg → Leg → Bool
opposite_of a b = eqb (cross_size a b) 0 && lt_z (dot3_of a b) (pos 0)
