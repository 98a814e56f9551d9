-- Clauses 9.4, 9.5, 10.1, 11.5, 11.6, 12.9, 15.14, 18.5: a line or a circle to follow, in f32 metres. Assumes nothing.
use Rattle.std.specs.Prelude.{Bool, true, false, ℕ, ℤ, pos, negsuc, Float}
use Rattle.course.specs.declared.Vector.{Vector}
use Rattle.course.specs.Direction.{direction_of}
use Rattle.plane.specs.declared.Point.{Point}
use Rattle.plane.specs.declared.Leg.{Leg}
use Rattle.plane.specs.Area.{leg_of, level_of}
use Rattle.units.specs.Metres.{metres_of, direction_part_of, Plain}
use Rattle.guidance.specs.declared.Metres.{Metres}
use Rattle.guidance.specs.declared.Command.{Command}
use Rattle.guidance.specs.declared.Command.TheVariants.{Line, Circle, Nothing}

-- +1 for clockwise, else −1
abbrev pub sense_of : Bool → ℤ
sense_of true = pos 1
sense_of false = negsuc 0

-- a level place at a height
unfoldable pub place_metres : Vector → ℤ → Metres
place_metres v down = record { north = metres_of v.north; east = metres_of v.east; down = metres_of down }

unfoldable pub leg_metres : Leg → Metres
leg_metres l = record { north = metres_of l.north; east = metres_of l.east; down = metres_of l.down }

-- 10.1: from a along the leg to b
unfoldable pub line_command : Point → Point → Command
line_command a b = Line (place_metres (level_of a) a.down) (leg_metres (leg_of a b))

-- 9.5: from z1 along D(θ), level
unfoldable pub course_command : Vector → ℤ → ℕ → Command
course_command z1 down θ =
    Line (place_metres z1 down)
    (record { north = direction_part_of (direction_of θ).north; east = direction_part_of (direction_of θ).east; down = direction_part_of (pos 0) })

unfoldable pub circle_command : Vector → ℤ → ℕ → Bool → Command
circle_command centre down R right = Circle (place_metres centre down) (metres_of (pos R)) (sense_of right)

-- ---- 15.14: every number of a command is a finite f32 and not −0.0
pub record PlainMetres (m : Metres) : Type 0 where
  pub north : Plain m.north
  pub east : Plain m.east
  pub down : Plain m.down

abbrev pub PlainCommand : Command → Type 0
PlainCommand (Line start direction) = PlainMetres start × PlainMetres direction
PlainCommand (Circle centre radius sense) = PlainMetres centre × Plain radius
PlainCommand Nothing = Unit {0}

-- there is something to follow
abbrev pub HasCommand : Command → Type 0
HasCommand (Line start direction) = Unit {0}
HasCommand (Circle centre radius sense) = Unit {0}
HasCommand Nothing = ⊥

-- for proofs alone: both
pub record IsCommand (c : Command) : Type 0 where
  pub there : HasCommand c
  pub plain : PlainCommand c

-- for proofs alone, what these are, said from outside: each number of a line and of a circle is plain, and Nothing is no command
pub record CommandMeans : Type 0 where
  pub metres : (m : Metres) → PlainMetres m → Plain m.north × (Plain m.east × Plain m.down)
  pub line : (start direction : Metres) → PlainCommand (Line start direction) → PlainMetres start × PlainMetres direction
  pub circle : (centre : Metres) (radius : Float) (sense : ℤ) → PlainCommand (Circle centre radius sense) → PlainMetres centre × Plain radius
  pub nothing : HasCommand Nothing → ⊥
