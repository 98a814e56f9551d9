-- Every starred example holds: one statement over the one list, which the prover computes. Assumes nothing.
use mathlib.Core.Path.{refl}
use lib.Ieee.{of_bits}
use Rattle.conditions.specs.Choose.{choose}
use Rattle.conditions.specs.All.{All}
use Rattle.integers.specs.Root.{next_root, root_by, root_of}
use Rattle.integers.specs.Round.{nearest_of}
use Rattle.integers.specs.Wrap.{wrap_of}
use Rattle.course.specs.Table.{series, scaled_sine, sine_of}
use Rattle.course.specs.Vectors.{cross}
use Rattle.course.specs.Direction.{quarter, turned, direction_of}
use Rattle.course.specs.Bearing.{edge_north, edge_east, reaches, climb, bearing_in, bearing_by, bearing_of, signed_course}
use Rattle.course.specs.Offset.{offset_of}
use Rattle.plane.specs.Area.{leg_of, level_of}
use Rattle.plane.specs.Level.{plus, minus, level_leg_of, dot_of, square_of, vector_length, sideways_of, arc_of}
use Rattle.plane.specs.Half.{dot3_of, square3_of, half_plane, met_of}
use Rattle.units.specs.Decimetres.{decimetres_of}
use Rattle.fillets.specs.Corners.{lesser_turn, turn_between, corner_turn, tangent_of, right_of, rounded_of, corner_of}
use Rattle.dubins.specs.Cases.{starts_right, ends_right, same_side, centre_of, circles_of, tangent_exists, straight_of, inner_tangent, straight_course, arc_turn, case_length, touch_of, path_of}
use Rattle.dubins.specs.Choice.{case_path, shorter_of, shortest_of}
use Rattle.heading.specs.Heading.{line_angle, line_heading}
use Rattle.starred.specs.Starred.{StarredHolds, starred}

pub each : All StarredHolds starred
unfolding choose next_root root_by root_of nearest_of wrap_of series scaled_sine sine_of cross quarter turned direction_of edge_north edge_east reaches climb bearing_in bearing_by bearing_of signed_course offset_of leg_of level_of plus minus level_leg_of dot_of square_of vector_length sideways_of arc_of dot3_of square3_of half_plane met_of decimetres_of of_bits lesser_turn turn_between corner_turn tangent_of right_of rounded_of corner_of starts_right ends_right same_side centre_of circles_of tangent_exists straight_of inner_tangent straight_course arc_turn case_length touch_of path_of case_path shorter_of shortest_of line_angle line_heading
each = (refl, (refl, (refl, (refl, (refl, (refl, (refl, (refl, (refl, (refl, ((refl, refl), (refl, (refl, (refl, (refl, (refl, (refl, (refl, (refl, (refl, tt))))))))))))))))))))
