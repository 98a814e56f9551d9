-- Clauses 7.11, 11.2, 11.4 to 11.6, 12.12: the turn at a corner, its tangent length, and its arc. Assumes nothing.
use Rattle.std.specs.Prelude.{◌≡◌, Bool, false, ℕ, ◌+◌, ◌-◌, ◌*◌, ◌/◌, ◌≤◌, leb, pos, negsuc, nat_abs, ◌+ℤ◌, ◌-ℤ◌, ◌*ℤ◌, ◌≤ℤ◌, ◌<ℤ◌}
use Rattle.std.specs.Int.Signed.{le_z, lt_z}
use Rattle.conditions.specs.Choose.{choose}
use Rattle.integers.specs.Wrap.{wrap_of}
use Rattle.course.specs.declared.Vector.{Vector}
use Rattle.course.specs.Vectors.{Near, plain, cross}
use Rattle.course.specs.Direction.{direction_of}
use Rattle.course.specs.Bearing.{bearing_of}
use Rattle.course.specs.Offset.{offset_of}
use Rattle.plane.specs.declared.Point.{Point}
use Rattle.plane.specs.Area.{level_of}
use Rattle.plane.specs.Level.{plus, minus, level_leg_of, dot_of, sideways_of}
use Rattle.fillets.specs.declared.Corner.{Corner}

-- 11.2: of the two ways round, the shorter
unfoldable pub lesser_turn : ℕ → ℕ → ℕ
lesser_turn j k = choose (leb (wrap_of (pos k -ℤ pos j)) 2048) (wrap_of (pos k -ℤ pos j)) (4096 - wrap_of (pos k -ℤ pos j))

unfoldable pub turn_between : Vector → Vector → ℕ
turn_between a b = lesser_turn (bearing_of a) (bearing_of b)

unfoldable pub corner_turn : Point → Point → Point → ℕ
corner_turn before point after = turn_between (level_leg_of before point) (level_leg_of point after)

-- a little above a right angle: the greatest turn whose tangent length is at most 5/4 of the radius. No rule asks it; it spares bearings.
abbrev pub easy_turn : ℕ
easy_turn = 1168

-- whether two products show that a turn is easy, as they do up to 101 degrees
unfoldable pub turns_easily : Vector → Vector → Bool
turns_easily a b = lt_z (pos 0) (pos 5 *ℤ dot_of a b +ℤ pos (nat_abs (cross a b)))

-- 11.2: T. It is asked for τ up to 1,792 only, where S ≥ 0 and 16,384 + C > 0.
unfoldable pub tangent_of : ℕ → ℕ → ℕ
tangent_of R τ = R * nat_abs (direction_of τ).east / nat_abs (pos 16384 +ℤ (direction_of τ).north)

-- the same without a quotient: what `tangent_length` promises of its answer T, and of no other
pub record IsTangent (R τ T : ℕ) : Type 0 where
  pub sine : pos 0 ≤ℤ (direction_of τ).east
  pub base : pos 0 <ℤ (pos 16384 +ℤ (direction_of τ).north)
  pub low : (pos T *ℤ (pos 16384 +ℤ (direction_of τ).north)) ≤ℤ (pos R *ℤ (direction_of τ).east)
  pub high : (pos R *ℤ (direction_of τ).east) <ℤ (pos (T + 1) *ℤ (pos 16384 +ℤ (direction_of τ).north))

-- 11.5: whether the sense is +1
unfoldable pub right_of : Vector → Vector → Bool
right_of a b = le_z (pos 0) (cross a b)

-- 11.4: z1 and z2; 11.6: the centre; for legs that bear j and k
unfoldable pub rounded_of : Vector → ℕ → ℕ → Bool → ℕ → ℕ → Corner
rounded_of point j k right R T =
    record {
      tangent = T;
      right = right;
      z1 = minus point (offset_of T j);
      z2 = plus point (offset_of T k);
      centre = plus (minus point (offset_of T j)) (offset_of R (sideways_of j right));
    }

-- the corner at a point between two others
unfoldable pub corner_of : Point → Point → Point → ℕ → Corner
corner_of before point after R =
    rounded_of (level_of point) (bearing_of (level_leg_of before point)) (bearing_of (level_leg_of point after))
    (right_of (level_leg_of before point) (level_leg_of point after)) R (tangent_of R (corner_turn before point after))

-- for proofs alone, worked out by hand: the sharpest turn of the widest radius, and at (1000,0), from north to west, a corner of tangent length 100 and R 200
pub record HandCorners : Type 0 where
  pub steepest : tangent_of 10000 1792 ≡ 50280
  pub corner :
      rounded_of (plain 1000 0) 0 3072 false 200 100
      ≡ record { tangent = 100; right = false; z1 = plain 900 0; z2 = record { north = pos 1000; east = negsuc 99 }; centre = record { north = pos 900; east = negsuc 199 } }

-- how far a corner's parts go
pub record IsCorner (c : Corner) : Type 0 where
  pub tangent : c.tangent ≤ 50280
  pub z1 : Near 550280 c.z1
  pub z2 : Near 550280 c.z2
  pub centre : Near 560280 c.centre
