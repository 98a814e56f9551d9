-- Clauses 12.1 to 12.6, 12.8, 12.9, 12.12: one case of a leg, in the rules' order and symbols. R is the radius, χs and χe are the courses to
-- leave and to arrive on, v runs between the centres, s is the straight part and θ its course. Assumes nothing.
use Rattle.std.specs.Prelude.{◌≡◌, Bool, true, false, not, ℕ, ◌+◌, ◌-◌, ◌*◌, ◌%◌, eqb, leb, ltb, pos, ◌+ℤ◌, ◌-ℤ◌, ◌*ℤ◌}
use Rattle.conditions.specs.Choose.{choose}
use Rattle.integers.specs.Root.{root_of}
use Rattle.integers.specs.Wrap.{wrap_of}
use Rattle.course.specs.declared.Vector.{Vector}
use Rattle.course.specs.Bearing.{bearing_of}
use Rattle.course.specs.Offset.{offset_of}
use Rattle.plane.specs.declared.Point.{Point}
use Rattle.plane.specs.Area.{level_of}
use Rattle.plane.specs.Level.{plus, minus, square_of, sideways_of, arc_of}
use Rattle.dubins.specs.declared.Case.{Case}
use Rattle.dubins.specs.declared.Case.TheVariants.{Rsr, Rsl, Lsr, Lsl}
use Rattle.dubins.specs.declared.Ends.{Ends}
use Rattle.dubins.specs.declared.Circles.{Circles}
use Rattle.dubins.specs.declared.Path.{Path}

-- 12.2: the number of a case in the rules' order. The first letter is the start circle's side, the last the end circle's.
abbrev pub number_of : Case → ℕ
number_of Rsr = 1
number_of Rsl = 2
number_of Lsr = 3
number_of Lsl = 4

unfoldable pub starts_right : Case → Bool
starts_right Rsr = true
starts_right Rsl = true
starts_right Lsr = false
starts_right Lsl = false

unfoldable pub ends_right : Case → Bool
ends_right Rsr = true
ends_right Rsl = false
ends_right Lsr = true
ends_right Lsl = false

-- the same by a number, of any other than these four too
unfoldable pub right_at_start : ℕ → Bool
right_at_start case = leb case 2

unfoldable pub right_at_end : ℕ → Bool
right_at_end case = eqb (case % 2) 1

-- and the numbers themselves
pub record SidesByNumber : Type 0 where
  pub rsr : number_of Rsr ≡ 1
  pub rsl : number_of Rsl ≡ 2
  pub lsr : number_of Lsr ≡ 3
  pub lsl : number_of Lsl ≡ 4
  pub starts : (case : Case) → right_at_start (number_of case) ≡ starts_right case
  pub ends : (case : Case) → right_at_end (number_of case) ≡ ends_right case

-- RSR and LSL, and not RSL and LSR
unfoldable pub same_side : Case → Bool
same_side case = choose (starts_right case) (ends_right case) (not (ends_right case))

-- 12.1: a radius to the side of the course
unfoldable pub centre_of : Point → ℕ → ℕ → Bool → Vector
centre_of p R χ right = plus (level_of p) (offset_of R (sideways_of χ right))

-- 12.1: both centres, and v between them
unfoldable pub circles_of : Ends → Case → Circles
circles_of ends case =
    let start = centre_of ends.start ends.radius ends.leave (starts_right case) in
    let end = centre_of ends.end ends.radius ends.arrive (ends_right case) in
    record { start = start; end = end; v = minus end start }

-- 12.3: v is not zero, which is v·v > 0; 12.4: the centres are at least two radii apart. The record `Existence` in Choice says this of each case.
unfoldable pub tangent_exists : Case → ℕ → Vector → Bool
tangent_exists case R v = choose (same_side case) (ltb 0 (square_of v)) (leb (4 * R * R) (square_of v))

abbrev pub case_exists : Ends → Case → Bool
case_exists ends case = tangent_exists case ends.radius (circles_of ends case).v

-- 12.3 and 12.4: s
unfoldable pub straight_of : Case → ℕ → Vector → ℕ
straight_of case R v = choose (same_side case) (root_of (square_of v)) (root_of (square_of v - 4 * R * R))

-- 12.4: along the inner tangent, for RSL, which starts right, and for LSR
unfoldable pub inner_tangent : Bool → ℕ → ℕ → Vector → Vector
inner_tangent right R s v =
    choose right
    (record { north = pos s *ℤ v.north -ℤ pos (2 * R) *ℤ v.east; east = pos s *ℤ v.east +ℤ pos (2 * R) *ℤ v.north })
    (record { north = pos s *ℤ v.north +ℤ pos (2 * R) *ℤ v.east; east = pos s *ℤ v.east -ℤ pos (2 * R) *ℤ v.north })

-- 12.3 and 12.4: θ
unfoldable pub straight_course : Case → ℕ → ℕ → Vector → ℕ
straight_course case R s v = bearing_of (choose (same_side case) v (inner_tangent (starts_right case) R s v))

-- 12.5: how far round, from one course to another
unfoldable pub arc_turn : ℕ → ℕ → Bool → ℕ
arc_turn from to right = choose right (wrap_of (pos to -ℤ pos from)) (wrap_of (pos from -ℤ pos to))

-- 12.6: the straight part and both arcs
unfoldable pub case_length : Ends → Case → ℕ → ℕ → ℕ
case_length ends case s θ =
    s + arc_of ends.radius (arc_turn ends.leave θ (starts_right case) + arc_turn θ ends.arrive (ends_right case))

-- 12.8: where the straight part touches a circle
unfoldable pub touch_of : Vector → ℕ → ℕ → Bool → Vector
touch_of centre R θ right = plus centre (offset_of R (sideways_of θ (not right)))

-- a case, from its circles and its straight part
unfoldable pub path_of : Ends → Case → Circles → ℕ → ℕ → Path
path_of ends case circles s θ =
    record {
      case = case;
      course = θ;
      length = case_length ends case s θ;
      start = circles.start;
      end = circles.end;
      z1 = touch_of circles.start ends.radius θ (starts_right case);
      z2 = touch_of circles.end ends.radius θ (ends_right case);
    }
