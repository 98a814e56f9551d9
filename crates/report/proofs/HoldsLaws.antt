-- The definitions are held: see specs/Holds. Assumes nothing.
use mathlib.Core.Path.{◌≡◌, refl}
use mathlib.Core.List.{[], ◌∷◌}
use lib.IntN.{pos, negsuc}
use lib.Ieee.{to_bits}
use Rattle.conditions.specs.Choose.{choose}
use Rattle.conditions.specs.Both.{both}
use Rattle.conditions.specs.Between.{between}
use Rattle.refusals.specs.Outcome.{good, refused, check, and_then}
use Rattle.refusals.specs.Sweep.{sweep}
use Rattle.text.specs.Digits.{digits_in, decimal_of, signed_text, hex_digit, hex_of}
use Rattle.text.specs.Parts.{count_text, number_text, bytes_to, bytes_text, float_text, refusal_text}
use Rattle.plane.specs.Area.{leg_of, level_of}
use Rattle.plane.specs.Half.{opposite_of, cross_size, minor_size}
use Rattle.plane.specs.Level.{minus, level_leg_of, dot_of, square_of}
use Rattle.plan.specs.Limits.{signed_between, inside_of, in_area_of}
use Rattle.plan.specs.Places.{padded}
use Rattle.plan.specs.Loaded.{plan_of}
use Rattle.plan.specs.Rules.{mode_of, courses_fit, pair_number, corner_number, leg_number, at_place, pairs_of, corners_of, legs_of, geometry_on, rules_on}
use Rattle.manager.specs.State.{start_of}
use Rattle.records.specs.Gather.{after, gather}
use Rattle.records.specs.Versions.{newest}
use Rattle.records.specs.Kinds.{table, row_in, row_of, optional, knows, point_in, point_rule, value_rule, known_rule, judge}
use Rattle.records.specs.Numbers.{u16_at, u32_at, i32_at}
use Rattle.records.specs.Walk.{walk_by, walk}
use Rattle.wpl.specs.Header.{marked_of, version_of, serial_of, area_of, area_fits, header_of}
use Rattle.wpl.specs.Load.{records_of, parts_of, settle_of, rules_in, finish_of, body_of, load_of, loaded_of}
use Rattle.report.specs.Listing.{mode_text, title_of, course_text, point_text, line_of, lines_to, plan_text, loaded_text, listing_of}
use Rattle.report.specs.Answers.{load_text, note_text, written_text}
use Rattle.report.specs.Fix.{floats_to, sense_text, command_text, guided_text, progress_text, fix_text}
use Rattle.report.specs.Holds.{example_file, short_file, ListingHolds, FixLineHolds, AnswersHold}

example-loads : load_of newest example_file
    ≡ good
    (start_of
    (plan_of 7 0
    (record { north = pos 0; east = pos 0; down = negsuc 999 } ∷ record { north = pos 1000; east = pos 0; down = negsuc 999 } ∷ record { north = pos 1000; east = pos 2000; down = negsuc 999 } ∷ [])
    []))
unfolding load_of header_of marked_of version_of serial_of area_of area_fits body_of parts_of settle_of finish_of records_of rules_in rules_on check and_then between both walk walk_by u16_at u32_at i32_at gather after judge row_of row_in table knows optional known_rule value_rule point_rule point_in in_area_of inside_of signed_between choose mode_of courses_fit geometry_on pairs_of corners_of legs_of sweep pair_number corner_number leg_number at_place square_of dot_of level_of level_leg_of minus leg_of opposite_of cross_size minor_size
example-loads = refl

cut-refused : load_of newest short_file ≡ refused 6 11
unfolding load_of header_of marked_of version_of serial_of area_of area_fits body_of parts_of records_of check and_then between both walk walk_by u16_at u32_at gather after choose
cut-refused = refl

pub listing-holds : ListingHolds
unfolding plan_text title_of lines_to line_of point_text course_text mode_text count_text number_text signed_text decimal_of digits_in choose mode_of padded listing_of loaded_text loaded_of refusal_text version_of u16_at
listing-holds = record { example = rw example-loads; refusal = rw cut-refused; fillets = refl; dubins = refl }

pub fix-holds : FixLineHolds
unfolding fix_text guided_text command_text sense_text floats_to progress_text count_text refusal_text float_text to_bits hex_of hex_digit decimal_of digits_in choose
fix-holds = record { line = refl; circle = refl; leftwards = refl; refusal = refl }

pub answers-hold : AnswersHold
unfolding load_text note_text written_text count_text refusal_text bytes_text bytes_to hex_of hex_digit decimal_of digits_in choose
answers-hold = record { load = refl; note = refl; write = refl }
