-- What the fixes of the examples of section 13 are answered: the prover computes it. Assumes nothing.
use mathlib.Core.Path.{refl}
use lib.Ieee.{of_bits}
use Rattle.conditions.specs.Choose.{choose}
use Rattle.conditions.specs.Both.{both}
use Rattle.conditions.specs.All.{All}
use Rattle.integers.specs.Root.{next_root, root_by, root_of}
use Rattle.integers.specs.Round.{nearest_of}
use Rattle.integers.specs.Wrap.{wrap_of}
use Rattle.refusals.specs.Outcome.{check, and_then, is_good}
use Rattle.refusals.specs.Sweep.{sweep, every}
use Rattle.course.specs.Table.{series, scaled_sine, sine_of}
use Rattle.course.specs.Vectors.{cross}
use Rattle.course.specs.Direction.{quarter, turned, direction_of}
use Rattle.course.specs.Bearing.{edge_north, edge_east, reaches, climb, bearing_in, bearing_by, bearing_of}
use Rattle.course.specs.Offset.{offset_of}
use Rattle.plane.specs.Area.{leg_of, level_of}
use Rattle.plane.specs.Level.{plus, minus, level_leg_of, dot_of, square_of, vector_length, sideways_of}
use Rattle.plane.specs.Half.{dot3_of, square3_of, half_plane, met_of, minor_size, cross_size, opposite_of}
use Rattle.units.specs.Decimetres.{decimetres_of, in_limit}
use Rattle.units.specs.Position.{all_in_limit, position_of}
use Rattle.fillets.specs.Corners.{lesser_turn, turn_between, corner_turn, tangent_of, right_of, rounded_of, corner_of}
use Rattle.dubins.specs.Cases.{centre_of, circles_of, tangent_exists, starts_right, ends_right, same_side}
use Rattle.dubins.specs.Choice.{has_path_of, far_apart}
use Rattle.guidance.specs.Guide.{from_of, leg_guide, line_guide, circle_guide, past_of, fillet_line, fillet_circle, fillet_guide, leg_ended, last_leg_guide}
use Rattle.plan.specs.Limits.{signed_between, inside_of, in_area_of, zero_of, arc_radius, radius_fits}
use Rattle.plan.specs.Places.{padded}
use Rattle.plan.specs.Rules.{mode_of, courses_fit, pair_number, corner_number, tangent_at, tangent_number, ends_number, leg_number, pairs_of, corners_of, legs_of, geometry_on, rules_on}
use Rattle.plan.specs.Stands.{given_of, point_fits, course_fits, values_fit, place_fits, places_fit, stands_of}
use Rattle.manager.specs.State.{last_index, on_last_leg, last_phase, at_end, index_fits, phase_fits, end_fits, placed_of, valid_of}
use Rattle.manager.specs.Step.{guide_of, next_of, refuse_of, moved_of, located_step, step_of}
use Rattle.manager.specs.LastLeg.{LastLegHolds, passing, ending, refused_states}

pub each : All LastLegHolds passing × (All LastLegHolds ending × All LastLegHolds refused_states)
unfolding choose next_root root_by root_of nearest_of wrap_of check and_then is_good sweep both every series scaled_sine sine_of cross quarter turned direction_of edge_north edge_east reaches climb bearing_in bearing_by bearing_of offset_of leg_of level_of plus minus level_leg_of dot_of square_of vector_length sideways_of dot3_of square3_of half_plane met_of minor_size cross_size opposite_of decimetres_of in_limit all_in_limit position_of of_bits lesser_turn turn_between corner_turn tangent_of right_of rounded_of corner_of from_of leg_guide line_guide circle_guide past_of fillet_line fillet_circle fillet_guide leg_ended last_leg_guide signed_between inside_of in_area_of zero_of arc_radius radius_fits padded mode_of courses_fit pair_number corner_number tangent_at tangent_number leg_number pairs_of corners_of legs_of geometry_on rules_on given_of point_fits course_fits values_fit place_fits places_fit stands_of last_index on_last_leg last_phase at_end index_fits phase_fits end_fits placed_of valid_of guide_of next_of refuse_of moved_of located_step step_of starts_right ends_right same_side centre_of circles_of tangent_exists has_path_of far_apart ends_number
each = ((refl, (refl, (refl, tt))), ((refl, (refl, (refl, (refl, (refl, (refl, (refl, (refl, (refl, tt))))))))), (refl, (refl, (refl, (refl, tt))))))
