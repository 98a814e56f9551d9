-- The examples of a strip listing hold: the prover computes them. Assumes nothing.
use mathlib.Core.Path.{refl}
use Rattle.conditions.specs.Choose.{choose}
use Rattle.conditions.specs.Both.{both}
use Rattle.conditions.specs.Between.{between}
use Rattle.integers.specs.Root.{next_root, root_by, root_of}
use Rattle.integers.specs.Round.{nearest_of}
use Rattle.integers.specs.Wrap.{wrap_of}
use Rattle.refusals.specs.Outcome.{check, and_then, is_good}
use Rattle.refusals.specs.Sweep.{sweep, every}
use Rattle.text.specs.Digits.{digits_in, decimal_of}
use Rattle.text.specs.Parts.{count_text, refusal_text}
use Rattle.course.specs.Table.{series, scaled_sine, sine_of}
use Rattle.course.specs.Vectors.{cross}
use Rattle.course.specs.Direction.{quarter, turned, direction_of}
use Rattle.course.specs.Bearing.{edge_north, edge_east, reaches, climb, bearing_in, bearing_by, bearing_of}
use Rattle.course.specs.Offset.{offset_of}
use Rattle.plane.specs.Area.{leg_of, level_of}
use Rattle.plane.specs.Level.{plus, minus, level_leg_of, dot_of, square_of, vector_length, sideways_of}
use Rattle.plane.specs.Half.{minor_size, cross_size, opposite_of}
use Rattle.dubins.specs.Cases.{starts_right, ends_right, same_side, centre_of, circles_of, tangent_exists}
use Rattle.dubins.specs.Choice.{has_path_of, far_apart}
use Rattle.plan.specs.Limits.{signed_between, inside_of, in_area_of, zero_of, arc_radius, radius_fits}
use Rattle.plan.specs.Places.{padded}
use Rattle.plan.specs.Rules.{mode_of, courses_fit, pair_number, corner_number, ends_number, leg_number, pairs_of, corners_of, legs_of, geometry_on, rules_on}
use Rattle.plan.specs.Stands.{given_of, point_fits, course_fits, values_fit, place_fits, places_fit, stands_of}
use Rattle.manager.specs.State.{last_index, on_last_leg, last_phase, at_end, index_fits, phase_fits, end_fits, placed_of, valid_of}
use Rattle.records.specs.Numbers.{u16_at, u32_at, i32_at}
use Rattle.records.specs.Walk.{walk_by, walk}
use Rattle.records.specs.Kinds.{table, row_in, row_of, optional, knows, point_in, point_rule, radius_rule, course_rule, value_rule, known_rule, judge}
use Rattle.records.specs.Gather.{after, gather}
use Rattle.wpl.specs.Header.{marked_of, version_of, serial_of, area_of, area_fits, header_of}
use Rattle.wpl.specs.Load.{records_of, parts_of, settle_of, rules_in, finish_of, body_of, load_of, loaded_of}
use Rattle.strips.specs.Check.{opposed_of, rule_broken, fault_of, is_dubins, paired_of, fault_check, plan_check, check_of, strip_row}
use Rattle.report.specs.Listing.{mode_text, title_of}
use Rattle.strip_report.specs.StripListing.{strip_title, strip_line, strip_lines_to, strips_text, fault_text, checked_text, loaded_strips, strip_listing_of}
use Rattle.strip_report.specs.Holds.{StripListingHolds}

pub strip-listing-holds : StripListingHolds
unfolding choose both between next_root root_by root_of nearest_of wrap_of check and_then is_good sweep every digits_in decimal_of count_text refusal_text series scaled_sine sine_of cross quarter turned direction_of edge_north edge_east reaches climb bearing_in bearing_by bearing_of offset_of leg_of level_of plus minus level_leg_of dot_of square_of vector_length sideways_of minor_size cross_size opposite_of starts_right ends_right same_side centre_of circles_of tangent_exists has_path_of far_apart signed_between inside_of in_area_of zero_of arc_radius radius_fits padded mode_of courses_fit pair_number corner_number ends_number leg_number pairs_of corners_of legs_of geometry_on rules_on given_of point_fits course_fits values_fit place_fits places_fit stands_of last_index on_last_leg last_phase at_end index_fits phase_fits end_fits placed_of valid_of u16_at u32_at i32_at walk_by walk table row_in row_of optional knows point_in point_rule radius_rule course_rule value_rule known_rule judge after gather marked_of version_of serial_of area_of area_fits header_of records_of parts_of settle_of rules_in finish_of body_of load_of loaded_of opposed_of rule_broken fault_of is_dubins paired_of fault_check plan_check check_of strip_row mode_text title_of strip_title strip_line strip_lines_to strips_text fault_text checked_text loaded_strips strip_listing_of
strip-listing-holds = record { example = refl; fault = refl; lines = refl; refusal = refl }
