-- Clauses 12.12, 14.1, 14.2: the two heading laws. Assumes nothing.
use Rattle.std.specs.Prelude.{Bool, ℕ, ◌*◌, ℤ, pos, ◌+ℤ◌, ◌-ℤ◌, ◌*ℤ◌}
use Rattle.std.specs.Int.Signed.{quot_z}
use Rattle.conditions.specs.Choose.{choose}
use Rattle.integers.specs.Wrap.{wrap_of}
use Rattle.course.specs.declared.Vector.{Vector}
use Rattle.course.specs.Vectors.{cross}
use Rattle.course.specs.Bearing.{bearing_of, signed_bearing_of}
use Rattle.plane.specs.Level.{vector_length}

-- 14.1: b, of d, the position less the start
unfoldable pub line_angle : Vector → Vector → ℤ
line_angle q d = signed_bearing_of (record { north = pos (500 * vector_length q); east = cross q d })

-- 14.1: three quarters of b, cut toward zero, off the line's own bearing
unfoldable pub line_heading : Vector → Vector → ℕ
line_heading q d = wrap_of (pos (bearing_of q) -ℤ quot_z (pos 768 *ℤ line_angle q d) (pos 1024))

-- 14.2: b, by how far outside the circle the position is
unfoldable pub circle_angle : ℕ → ℕ → ℤ
circle_angle R dist = signed_bearing_of (record { north = pos R; east = pos 4 *ℤ (pos dist -ℤ pos R) })

-- 14.2: a quarter on from φ, and b, to the circle's side
unfoldable pub round_heading : ℕ → Bool → ℤ → ℕ
round_heading φ right b = choose right (wrap_of (pos φ +ℤ (pos 1024 +ℤ b))) (wrap_of (pos φ -ℤ (pos 1024 +ℤ b)))

-- 14.2: of d, the position less the centre; at the centre φ is 0
unfoldable pub circle_heading : Vector → ℕ → Bool → ℕ
circle_heading d R right = round_heading (bearing_of d) right (circle_angle R (vector_length d))
