-- No clause: what `shortest_path` works with, tied to Cases and Choice: both centres at an end, and a path without z1 and z2. For proofs alone:
-- no contract of a public function cites it. Assumes nothing.
use Rattle.std.specs.Prelude.{◌≡◌, true, false, ℕ, ◌≤◌, ◌<◌, Option, Some, None}
use Rattle.std.specs.Option.{option_map}
use Rattle.course.specs.Vectors.{Near}
use Rattle.plane.specs.declared.Point.{Point}
use Rattle.dubins.specs.declared.Centres.{Centres}
use Rattle.dubins.specs.declared.Path.{Path}
use Rattle.dubins.specs.declared.Way.{Way}
use Rattle.dubins.specs.Cases.{starts_right, ends_right, centre_of, touch_of}

-- both centres at a point with a course, each a radius away
pub record AreCentres (p : Point) (R χ : ℕ) (c : Centres) : Type 0 where
  pub right : c.right ≡ centre_of p R χ true
  pub left : c.left ≡ centre_of p R χ false
  pub right_near : Near 510000 c.right
  pub left_near : Near 510000 c.left

-- the bounds of a path without z1 and z2, which are those of IsPath
pub record IsWay (w : Way) : Type 0 where
  pub course : w.course < 4096
  pub length : w.length ≤ 1568130
  pub start : Near 510000 w.start
  pub end : Near 510000 w.end

abbrev pub IsTried : Option Way → Type 0
IsTried (Some w) = IsWay w
IsTried None = Unit {0}

-- the path, with z1 and z2 as in path_of
unfoldable pub path_along : ℕ → Way → Path
path_along R w =
    record {
      case = w.case;
      course = w.course;
      length = w.length;
      start = w.start;
      end = w.end;
      z1 = touch_of w.start R w.course (starts_right w.case);
      z2 = touch_of w.end R w.course (ends_right w.case);
    }

unfoldable pub found_by : ℕ → Option Way → Option Path
found_by R tried = option_map (path_along R) tried

-- a number that is more than any length, and what a number says of what was found: its length, or that number
abbrev pub no_length : ℕ
no_length = 2000000

abbrev pub Measures : Option Path → ℕ → Type 0
Measures (Some path) n = (n ≡ path.length) × (n < no_length)
Measures None n = n ≡ no_length
