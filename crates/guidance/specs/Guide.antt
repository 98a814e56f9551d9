-- Clauses 10.1, 10.4, 11.1, 11.6, 11.7, 12.9, 12.11, 12.12, 13.2, 13.3, 14.3: what each phase commands, its heading, and what ends it. p is the
-- position. Assumes nothing.
use Rattle.std.specs.Prelude.{Bool, ℕ, eqb, ltb, pos}
use Rattle.std.specs.Int.Signed.{le_z}
use Rattle.conditions.specs.Choose.{choose}
use Rattle.course.specs.declared.Vector.{Vector}
use Rattle.course.specs.Direction.{direction_of}
use Rattle.plane.specs.declared.Point.{Point}
use Rattle.plane.specs.Area.{leg_of, level_of}
use Rattle.plane.specs.Level.{minus, dot_of, level_leg_of}
use Rattle.plane.specs.Half.{dot3_of, met_of}
use Rattle.fillets.specs.declared.Corner.{Corner}
use Rattle.fillets.specs.Corners.{corner_of}
use Rattle.dubins.specs.declared.Ends.{Ends}
use Rattle.dubins.specs.declared.Path.{Path}
use Rattle.dubins.specs.Cases.{starts_right, ends_right}
use Rattle.heading.specs.Heading.{line_heading, circle_heading}
use Rattle.guidance.specs.declared.Guidance.{Guidance}
use Rattle.guidance.specs.declared.View.{View}
use Rattle.guidance.specs.declared.View.TheVariants.{Level, InSpace}
use Rattle.guidance.specs.Commands.{line_command, course_command, circle_command}

-- p less a place, in north and east
unfoldable pub from_of : Vector → Point → Vector
from_of place p = minus (level_of p) place

-- 14.3: along the whole leg
unfoldable pub leg_heading : Point → Point → Point → ℕ
leg_heading a b p = line_heading (level_leg_of a b) (from_of (level_of a) p)

-- the line along the leg from a to b, and whether p ends the phase
unfoldable pub leg_guide : Point → Point → Bool → Point → Guidance
leg_guide a b passed p = record { command = line_command a b; heading = leg_heading a b p; passed = passed }

-- 10.1 and 10.2: the line to point i, until its half-plane. a, b, c are the points i−1, i, i+1.
unfoldable pub line_guide : Point → Point → Point → Point → Guidance
line_guide a b c p = leg_guide a b (met_of (leg_of b p) (leg_of a b) (leg_of b c)) p

-- a circle at the height of a point, and whether p ends the phase
unfoldable pub circle_guide : Vector → Point → ℕ → Bool → Bool → Point → Guidance
circle_guide centre height R right passed p =
    record { command = circle_command centre height.down R right; heading = circle_heading (from_of centre p) R right; passed = passed }

-- 11.7: at z or beyond it along the leg, level
unfoldable pub past_of : Vector → Vector → Point → Bool
past_of z leg p = le_z (pos 0) (dot_of (from_of z p) leg)

-- 11.1 and 11.7: the line, until z1
unfoldable pub fillet_line : Point → Point → Corner → Point → Guidance
fillet_line a b corner p = leg_guide a b (past_of corner.z1 (level_leg_of a b) p) p

-- 11.6 and 11.7: the circle at the point's down, until z2
unfoldable pub fillet_circle : Point → Point → ℕ → Corner → Point → Guidance
fillet_circle b c R corner p = circle_guide corner.centre b R corner.right (past_of corner.z2 (level_leg_of b c) p) p

-- 8.4: phase 1 is the line, 2 the circle
unfoldable pub fillet_guide : Point → Point → Point → ℕ → ℕ → Point → Guidance
fillet_guide a b c R phase p = choose (eqb phase 1) (fillet_line a b (corner_of a b c R) p) (fillet_circle b c R (corner_of a b c R) p)

-- 13.3: the last leg, from a to b, is over at b and beyond it: level for fillets, in three dimensions for lines
unfoldable pub leg_ended : View → Point → Point → Point → Bool
leg_ended Level a b p = past_of (level_of b) (level_leg_of a b) p
leg_ended InSpace a b p = le_z (pos 0) (dot3_of (leg_of b p) (leg_of a b))

-- until then, and after it, the leg's own line is commanded
unfoldable pub last_leg_guide : View → Point → Point → Point → Guidance
last_leg_guide view a b p = leg_guide a b (leg_ended view a b p) p

-- 12.9: at z or beyond it along D(k), and at z or short of it
unfoldable pub reached_of : Vector → ℕ → Point → Bool
reached_of z k p = le_z (pos 0) (dot_of (from_of z p) (direction_of k))

unfoldable pub short_of : Vector → ℕ → Point → Bool
short_of z k p = le_z (dot_of (from_of z p) (direction_of k)) (pos 0)

-- 12.9: what ends phases 1 and 2
unfoldable pub start_passed : Path → ℕ → Point → Bool
start_passed path phase p = choose (eqb phase 1) (short_of path.z1 path.course p) (reached_of path.z1 path.course p)

-- 12.9: what ends phases 4 and 5
unfoldable pub end_passed : Point → ℕ → ℕ → Point → Bool
end_passed end χe phase p = choose (eqb phase 4) (short_of (level_of end) χe p) (reached_of (level_of end) χe p)

-- 12.9: phase 3; 14.3: its heading is by D(θ)
unfoldable pub straight_guide : Point → Path → Point → Guidance
straight_guide start path p =
    record {
      command = course_command path.z1 start.down path.course;
      heading = line_heading (direction_of path.course) (from_of path.z1 p);
      passed = reached_of path.z2 path.course p;
    }

-- 12.9: which circle; 12.11: whose down
unfoldable pub dubins_guide : Ends → Path → ℕ → Point → Guidance
dubins_guide ends path phase p =
    choose (eqb phase 3) (straight_guide ends.start path p)
    (choose (ltb phase 3)
    (circle_guide path.start ends.start ends.radius (starts_right path.case) (start_passed path phase p) p)
    (circle_guide path.end ends.end ends.radius (ends_right path.case) (end_passed ends.end ends.arrive phase p) p))
