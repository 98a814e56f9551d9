-- Clauses 1.1, 11.1, 11.3, 11.6, 12.1, 12.6: level vectors and courses: sums, products, a quarter to either side, the length of an arc. Assumes
-- nothing.
use Rattle.std.specs.Prelude.{Bool, ℕ, ◌*◌, ◌/◌, ℤ, pos, nat_abs, ◌+ℤ◌, ◌-ℤ◌, ◌*ℤ◌}
use Rattle.conditions.specs.Choose.{choose}
use Rattle.integers.specs.Wrap.{wrap_of}
use Rattle.integers.specs.Root.{root_of}
use Rattle.course.specs.declared.Vector.{Vector}
use Rattle.plane.specs.declared.Point.{Point}
use Rattle.plane.specs.Area.{level_of}

unfoldable pub plus : Vector → Vector → Vector
plus a b = record { north = a.north +ℤ b.north; east = a.east +ℤ b.east }

unfoldable pub minus : Vector → Vector → Vector
minus a b = record { north = a.north -ℤ b.north; east = a.east -ℤ b.east }

-- the leg from a to b in north and east
unfoldable pub level_leg_of : Point → Point → Vector
level_leg_of a b = minus (level_of b) (level_of a)

unfoldable pub dot_of : Vector → Vector → ℤ
dot_of a b = a.north *ℤ b.north +ℤ a.east *ℤ b.east

-- v·v, which is never negative
unfoldable pub square_of : Vector → ℕ
square_of v = nat_abs (dot_of v v)

-- 11.3: its length, rounded down
unfoldable pub vector_length : Vector → ℕ
vector_length v = root_of (square_of v)

-- 12.1: a quarter to the right of a course, or to the left
unfoldable pub sideways_of : ℕ → Bool → ℕ
sideways_of χ right = choose right (wrap_of (pos χ +ℤ pos 1024)) (wrap_of (pos χ -ℤ pos 1024))

-- 12.6: the arc of a turn; 355/231,424 is a unit in radians, nearly
unfoldable pub arc_of : ℕ → ℕ → ℕ
arc_of R turns = R * turns * 355 / 231424
