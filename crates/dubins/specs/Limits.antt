-- No clause: what a leg's ends may be, and the bounds of its path, for contracts below a plan. Assumes nothing.
use Rattle.std.specs.Prelude.{◌≤◌, ◌<◌, Option, Some, None}
use Rattle.course.specs.Vectors.{Near}
use Rattle.plane.specs.Area.{InArea}
use Rattle.dubins.specs.declared.Ends.{Ends}
use Rattle.dubins.specs.declared.Circles.{Circles}
use Rattle.dubins.specs.declared.Path.{Path}

-- two points of the area, two courses and a radius
pub record IsEnds (ends : Ends) : Type 0 where
  pub start : InArea ends.start
  pub leave : ends.leave < 4096
  pub end : InArea ends.end
  pub arrive : ends.arrive < 4096
  pub radius : ends.radius ≤ 10000

-- for proofs alone: a centre lies a radius from its point
pub record IsCircles (c : Circles) : Type 0 where
  pub start : Near 510000 c.start
  pub end : Near 510000 c.end
  pub v : Near 1020000 c.v

-- z1 and z2 lie a radius from their centres; the length is at most the root of 2·1,020,000² and an arc of two turns
pub record IsPath (p : Path) : Type 0 where
  pub course : p.course < 4096
  pub length : p.length ≤ 1568130
  pub start : Near 510000 p.start
  pub end : Near 510000 p.end
  pub z1 : Near 520000 p.z1
  pub z2 : Near 520000 p.z2

abbrev pub IsFound : Option Path → Type 0
IsFound (Some p) = IsPath p
IsFound None = Unit {0}
