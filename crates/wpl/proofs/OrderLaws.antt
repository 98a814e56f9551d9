-- Each file and each write with faults is refused with the number of the first of them: the prover computes both lists. Assumes nothing.
use mathlib.Core.Path.{refl}
use Rattle.conditions.specs.Choose.{choose}
use Rattle.conditions.specs.Both.{both}
use Rattle.conditions.specs.Between.{between}
use Rattle.conditions.specs.All.{All}
use Rattle.integers.specs.Root.{next_root, root_by, root_of}
use Rattle.integers.specs.Round.{nearest_of}
use Rattle.integers.specs.Wrap.{wrap_of}
use Rattle.refusals.specs.Outcome.{check, and_then, is_good}
use Rattle.refusals.specs.Sweep.{sweep, every}
use Rattle.course.specs.Table.{series, scaled_sine, sine_of}
use Rattle.course.specs.Vectors.{cross}
use Rattle.course.specs.Direction.{quarter, turned, direction_of}
use Rattle.course.specs.Bearing.{edge_north, edge_east, reaches, climb, bearing_in, bearing_by, bearing_of}
use Rattle.course.specs.Offset.{offset_of}
use Rattle.plane.specs.Area.{leg_of, level_of}
use Rattle.plane.specs.Level.{plus, minus, level_leg_of, dot_of, square_of, vector_length, sideways_of, arc_of}
use Rattle.plane.specs.Half.{dot3_of, square3_of, minor_size, cross_size, opposite_of}
use Rattle.fillets.specs.Corners.{lesser_turn, turn_between, corner_turn, tangent_of}
use Rattle.plan.specs.Limits.{signed_between, inside_of, in_area_of, zero_of, arc_radius, radius_fits}
use Rattle.plan.specs.Places.{padded}
use Rattle.plan.specs.Rules.{mode_of, courses_fit, pair_number, corner_number, tangent_at, tangent_number, ends_number, leg_number, pairs_of, corners_of, legs_of, geometry_on, rules_on}
use Rattle.plan.specs.Stands.{given_of, point_fits, course_fits, values_fit, place_fits, places_fit, stands_of}
use Rattle.records.specs.Numbers.{u16_at, u32_at, i32_at, u16_bytes, u32_bytes, i32_bytes}
use Rattle.records.specs.Walk.{walk_by, walk, fills, flat}
use Rattle.records.specs.Kinds.{table, row_in, row_of, optional, knows, point_in, point_bytes, point_rule, radius_rule, course_rule, optional_rule, value_rule, known_rule, unknown_rule, judge, skipped, sift}
use Rattle.records.specs.Gather.{after, gather}
use Rattle.writer.specs.File.{with_header, point_records, radius_record, listed, plan_records, file_of}
use Rattle.manager.specs.State.{last_index, on_last_leg, last_phase, at_end, index_fits, phase_fits, end_fits, placed_of, valid_of}
use Rattle.wpl.specs.Header.{marked_of, version_of, serial_of, area_of, area_fits, header_of}
use Rattle.wpl.specs.Load.{records_of, parts_of, settle_of, rules_in, finish_of, body_of, load_of}
use Rattle.wpl.specs.Write.{carried_since, write_of}
use Rattle.wpl.specs.Order.{Refused, load_order, write_order}

pub in_order : All Refused load_order × All Refused write_order
unfolding choose next_root root_by root_of nearest_of wrap_of check and_then is_good sweep both every series scaled_sine sine_of cross quarter turned direction_of edge_north edge_east reaches climb bearing_in bearing_by bearing_of offset_of leg_of level_of plus minus level_leg_of dot_of square_of vector_length sideways_of arc_of dot3_of square3_of minor_size cross_size opposite_of lesser_turn turn_between corner_turn tangent_of signed_between inside_of in_area_of zero_of arc_radius radius_fits padded mode_of courses_fit pair_number corner_number tangent_at tangent_number ends_number leg_number pairs_of corners_of legs_of geometry_on rules_on given_of point_fits course_fits values_fit place_fits places_fit stands_of u16_at u32_at i32_at u16_bytes u32_bytes i32_bytes walk_by walk fills flat table row_in row_of optional knows between point_in point_bytes point_rule radius_rule course_rule optional_rule value_rule known_rule unknown_rule judge skipped sift after gather with_header point_records radius_record listed plan_records file_of last_index on_last_leg last_phase at_end index_fits phase_fits end_fits placed_of valid_of marked_of version_of serial_of area_of area_fits header_of records_of parts_of settle_of rules_in finish_of body_of load_of carried_since write_of
in_order = (
  (refl, (refl, (refl, (refl, (refl, (refl, (refl, (refl, (refl, (refl, (refl, (refl, (refl, (refl, (refl, tt))))))))))))))),
  (refl, (refl, (refl, (refl, (refl, tt))))),
)
