-- Clause 2.5: the cross product and the squared length of level vectors. Assumes nothing.
use Rattle.std.specs.Prelude.{ℕ, ℤ, pos, ◌+ℤ◌, ◌-ℤ◌, ◌*ℤ◌}
use Rattle.integers.specs.Bounds.{Within}
use Rattle.course.specs.declared.Vector.{Vector}

-- the vector of two naturals
abbrev pub plain : ℕ → ℕ → Vector
plain a b = record { north = pos a; east = pos b }

-- 2.5: positive where the second vector lies to the right of the first
unfoldable pub cross : Vector → Vector → ℤ
cross u v = u.north *ℤ v.east -ℤ u.east *ℤ v.north

-- v·v, the squared length
unfoldable pub squared_length : Vector → ℤ
squared_length v = v.north *ℤ v.north +ℤ v.east *ℤ v.east

-- neither part is beyond n
pub record Near (n : ℕ) (v : Vector) : Type 0 where
  pub north : Within n v.north
  pub east : Within n v.east
