-- Clauses 1.1, 1.3: points, and what lies between two of them. Assumes nothing.
use Rattle.std.specs.Prelude.{◌-ℤ◌}
use Rattle.integers.specs.Bounds.{Within}
use Rattle.course.specs.declared.Vector.{Vector}
use Rattle.plane.specs.declared.Point.{Point}
use Rattle.plane.specs.declared.Leg.{Leg}

-- 1.3, as bounds
pub record InArea (p : Point) : Type 0 where
  pub north : Within 500000 p.north
  pub east : Within 500000 p.east
  pub down : Within 100000 p.down

-- a leg between two such points
pub record IsLeg (l : Leg) : Type 0 where
  pub north : Within 1000000 l.north
  pub east : Within 1000000 l.east
  pub down : Within 200000 l.down

unfoldable pub leg_of : Point → Point → Leg
leg_of a b = record { north = b.north -ℤ a.north; east = b.east -ℤ a.east; down = b.down -ℤ a.down }

-- the point in north and east
unfoldable pub level_of : Point → Vector
level_of p = record { north = p.north; east = p.east }
