-- Clauses 7.13, 9.1, 18.3: the position of a fix, or none. Assumes nothing.
use Rattle.std.specs.Prelude.{Bool, ◌&&◌, Option, Some, None}
use Rattle.conditions.specs.Choose.{choose}
use Rattle.plane.specs.declared.Point.{Point}
use Rattle.plane.specs.Area.{InArea}
use Rattle.units.specs.declared.Fix.{Fix}
use Rattle.units.specs.Decimetres.{decimetres_of, in_limit}

abbrev pub in_decimetres : Fix → Point
in_decimetres f = record { north = decimetres_of f.north; east = decimetres_of f.east; down = decimetres_of f.down }

unfoldable pub all_in_limit : Fix → Bool
all_in_limit f = in_limit 50000 f.north && (in_limit 50000 f.east && in_limit 10000 f.down)

unfoldable pub position_of : Fix → Option Point
position_of f = choose (all_in_limit f) (Some (in_decimetres f)) None

-- where there is a point, it lies in the area
abbrev pub IsPosition : Option Point → Type 0
IsPosition (Some p) = InArea p
IsPosition None = Unit {0}
