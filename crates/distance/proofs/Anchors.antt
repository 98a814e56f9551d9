-- The examples of tables hold, by computing. The checker takes the files by name, this one before all laws, so that a definition that misses the
-- request is refused by its example. Assumes nothing.
use mathlib.Core.Path.{refl}
use Rattle.conditions.specs.Choose.{choose}
use Rattle.conditions.specs.Both.{both}
use Rattle.integers.specs.Root.{next_root, root_by, root_of}
use Rattle.integers.specs.Round.{nearest_of}
use Rattle.integers.specs.Wrap.{wrap_of}
use Rattle.refusals.specs.Outcome.{check, and_then, is_good}
use Rattle.refusals.specs.Sweep.{sweep, every, passed_of}
use Rattle.course.specs.Table.{series, scaled_sine, sine_of}
use Rattle.course.specs.Direction.{quarter, turned, direction_of}
use Rattle.course.specs.Bearing.{edge_north, edge_east, reaches, climb, bearing_in, bearing_by, bearing_of}
use Rattle.course.specs.Offset.{offset_of}
use Rattle.plane.specs.Area.{leg_of, level_of}
use Rattle.plane.specs.Level.{plus, minus, level_leg_of, dot_of, square_of, vector_length, sideways_of, arc_of}
use Rattle.plane.specs.Half.{dot3_of, minor_size, cross_size, opposite_of}
use Rattle.fillets.specs.Corners.{lesser_turn, turn_between, corner_turn, tangent_of}
use Rattle.dubins.specs.Cases.{starts_right, ends_right, same_side, centre_of, circles_of, tangent_exists, straight_of, inner_tangent, straight_course, arc_turn, case_length, touch_of, path_of}
use Rattle.dubins.specs.Choice.{case_path, shorter_of, shortest_of, found_length}
use Rattle.plan.specs.Limits.{signed_between, inside_of, in_area_of, zero_of, radius_fits}
use Rattle.plan.specs.Places.{padded}
use Rattle.plan.specs.Rules.{mode_of, courses_fit, pair_number, corner_number, tangent_at, leg_number, pairs_of, corners_of, legs_of, geometry_on, rules_on}
use Rattle.plan.specs.Stands.{given_of, point_fits, course_fits, values_fit, place_fits, places_fit, stands_of}
use Rattle.manager.specs.State.{last_index, on_last_leg, last_phase, at_end, index_fits, phase_fits, end_fits, placed_of, valid_of}
use Rattle.distance.specs.Lengths.{total, level_length, leg_length, corner_arc, length_from, entry_of}
use Rattle.distance.specs.Table.{entries_from, entries_of, distances_of, table_of, distance_of, distance_by}
use Rattle.distance.specs.Holds.{DistancesHold}

pub distances-hold : DistancesHold
unfolding choose both next_root root_by root_of nearest_of wrap_of check and_then is_good sweep every series scaled_sine sine_of quarter turned direction_of edge_north edge_east reaches climb bearing_in bearing_by bearing_of offset_of leg_of level_of plus minus level_leg_of dot_of square_of vector_length sideways_of arc_of dot3_of minor_size cross_size opposite_of lesser_turn turn_between corner_turn tangent_of starts_right ends_right same_side centre_of circles_of tangent_exists straight_of inner_tangent straight_course arc_turn case_length touch_of path_of case_path shorter_of shortest_of found_length signed_between inside_of in_area_of zero_of radius_fits padded mode_of courses_fit pair_number corner_number tangent_at leg_number pairs_of corners_of legs_of geometry_on rules_on given_of point_fits course_fits values_fit place_fits places_fit stands_of last_index on_last_leg last_phase at_end index_fits phase_fits end_fits placed_of valid_of total level_length leg_length corner_arc length_from entry_of entries_from entries_of distances_of passed_of table_of distance_of distance_by
distances-hold =
    record {
      tables = (refl, (refl, (refl, (refl, (refl, tt)))));
      room = refl;
      short = refl;
      unsound = refl;
      told = refl;
      full = refl;
      written = refl;
      unwritten = refl;
      start = refl;
      last = refl;
      none = refl;
    }
