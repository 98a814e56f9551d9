-- The legs that were worked out by hand are what the definitions give: the prover computes them. Assumes nothing.
use mathlib.Core.Path.{refl}
use Rattle.conditions.specs.Choose.{choose}
use Rattle.integers.specs.Root.{next_root, root_by, root_of}
use Rattle.integers.specs.Round.{nearest_of}
use Rattle.integers.specs.Wrap.{wrap_of}
use Rattle.course.specs.Table.{series, scaled_sine, sine_of}
use Rattle.course.specs.Direction.{quarter, turned, direction_of}
use Rattle.course.specs.Bearing.{edge_north, edge_east, reaches, climb, bearing_in, bearing_by, bearing_of}
use Rattle.course.specs.Offset.{offset_of}
use Rattle.plane.specs.Area.{level_of}
use Rattle.plane.specs.Level.{plus, minus, dot_of, square_of, sideways_of, arc_of}
use Rattle.dubins.specs.Cases.{starts_right, ends_right, same_side, centre_of, circles_of, tangent_exists, straight_of, inner_tangent, straight_course, arc_turn, case_length, touch_of, path_of}
use Rattle.dubins.specs.Choice.{case_path, shorter_of, shortest_of}
use Rattle.dubins.specs.HandLegs.{HandLegs}

pub hand-legs : HandLegs
unfolding choose next_root root_by root_of nearest_of wrap_of series scaled_sine sine_of quarter turned direction_of edge_north edge_east reaches climb bearing_in bearing_by bearing_of offset_of level_of plus minus dot_of square_of sideways_of arc_of starts_right ends_right same_side centre_of circles_of tangent_exists straight_of inner_tangent straight_course arc_turn case_length touch_of path_of case_path shorter_of shortest_of
hand-legs = record { rsl = refl; lsr = refl; lsl = refl }
