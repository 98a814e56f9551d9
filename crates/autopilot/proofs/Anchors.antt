-- A file in an autopilot's words, computed from the definitions. Assumes nothing.
use mathlib.Core.Path.{◌≡◌, refl, sym, ap, ◌∙◌}
use mathlib.Core.Bool.{Bool, true}
use mathlib.Core.List.{List, [], ◌∷◌}
use mathlib.Core.Logic.{inl, inr}
use Prim.Native.Nat.{ℕ, zero, suc}
use native.Mathlib.Omega.{arith}
use lib.Dec.{ltb}
use lib.IntN.{ℤ, pos}
use borrow.Author.Tests.{ltb-true}
use lib.Ieee.{of_bits, div, of_int}
use Rattle.conditions.specs.Choose.{choose}
use Rattle.conditions.specs.Both.{both}
use Rattle.conditions.specs.Between.{between}
use Rattle.conditions.proofs.Bools.{both_first, both-second}
use Rattle.integers.specs.Root.{next_root, root_by, root_of}
use Rattle.integers.specs.Round.{nearest_of}
use Rattle.integers.specs.Wrap.{wrap_of}
use Rattle.refusals.specs.Outcome.{Outcome, good, refused, check, and_then, refusal_of, is_good}
use Rattle.refusals.specs.Sweep.{sweep, every}
use Rattle.course.specs.Table.{series, scaled_sine, sine_of}
use Rattle.course.specs.Vectors.{cross}
use Rattle.course.specs.Direction.{quarter, turned, direction_of}
use Rattle.course.specs.Bearing.{edge_north, edge_east, reaches, climb, bearing_in, bearing_by, bearing_of, signed_course}
use Rattle.plane.specs.Area.{leg_of, level_of}
use Rattle.plane.specs.Level.{plus, minus, level_leg_of, dot_of, square_of, vector_length, sideways_of}
use Rattle.plane.specs.Half.{dot3_of, square3_of, half_plane, met_of, minor_size, cross_size, opposite_of}
use Rattle.units.specs.Decimetres.{decimetres_of, in_limit}
use Rattle.units.specs.Metres.{quotient_of, metres_of}
use Rattle.units.specs.Position.{all_in_limit, position_of}
use Rattle.guidance.specs.Commands.{place_metres, leg_metres, line_command}
use Rattle.guidance.specs.Guide.{from_of, leg_heading, leg_guide, line_guide, leg_ended, last_leg_guide}
use Rattle.heading.specs.Heading.{line_angle, line_heading}
use Rattle.plan.specs.Limits.{signed_between, inside_of, in_area_of, zero_of, radius_fits}
use Rattle.plan.specs.Places.{padded}
use Rattle.plan.specs.Rules.{mode_of, courses_fit, pair_number, corner_number, leg_number, pairs_of, corners_of, legs_of, geometry_on, rules_on}
use Rattle.plan.specs.Stands.{given_of, point_fits, course_fits, values_fit, place_fits, places_fit, stands_of}
use Rattle.manager.specs.declared.State.{State}
use Rattle.manager.specs.State.{last_index, on_last_leg, last_phase, at_end, index_fits, phase_fits, end_fits, placed_of, valid_of}
use Rattle.manager.specs.Step.{guide_of, next_of, refuse_of, moved_of, located_step, step_of}
use Rattle.records.specs.Numbers.{u16_at, u32_at, i32_at, u16_bytes, u32_bytes, i32_bytes}
use Rattle.records.specs.Walk.{walk_by, walk, flat}
use Rattle.records.specs.Kinds.{table, row_in, row_of, optional, knows, point_in, point_bytes, point_rule, value_rule, known_rule, judge}
use Rattle.records.specs.Gather.{after, gather}
use Rattle.writer.specs.File.{with_header, point_records, radius_record, listed, plan_records, file_of}
use Rattle.c_answer.specs.Words.{word_of, flag_of, kind_of, command_sense, answer_words, command_numbers}
use Rattle.c_state.specs.Stored.{mode_word, mode_at, state_words, word_at, holds_state, taken_of, pair_fits}
use Rattle.wpl.specs.Header.{marked_of, version_of, serial_of, area_of, area_fits, header_of}
use Rattle.wpl.specs.Load.{records_of, parts_of, settle_of, rules_in, finish_of, body_of, load_of, loaded_of}
use Rattle.wpl.specs.Write.{carried_since, write_of, written_of, buffer_of}
use Rattle.autopilot.specs.Calls.{fix_fits, load_result, load_state, load_answer, write_file, write_answer, fix_words, fix_numbers, fix_number, fix_next, write_from}
use Rattle.autopilot.specs.CallList.{reply_to, words_after, replies, words_in_the_end}
use Rattle.autopilot.specs.TwoBuffers.{AreBytes}
use Rattle.distance.specs.Lengths.{total, level_length, leg_length, corner_arc, length_from, entry_of}
use Rattle.distance.specs.Table.{entries_from, entries_of, distances_of, table_of, distance_of, distance_by}
use Rattle.autopilot.specs.Distances.{distances_in, distance_in, distances_result, distances_table, distances_answer, distance_result, distance_answer}
use Rattle.autopilot.specs.Example.{DistanceExample, example, ones, words_at, calls, CallExample, Separates, Lengths}

abbrev bytes_in : List ℕ → Bool
bytes_in [] = true
bytes_in (x ∷ xs) = both (ltb x 256) (bytes_in xs)

all-bytes : (f : List ℕ) → bytes_in f ≡ true → AreBytes f
all-bytes [] h i = omega arith
all-bytes (x ∷ xs) h zero = ltb-true x 256 (both_first _ _ h)
all-bytes (x ∷ xs) h (suc i) = all-bytes xs (both-second _ _ h) i

-- what tells states apart
serial_in : Outcome State → ℕ
serial_in (good s) = s.plan.head.serial
serial_in (refused number place) = 0

index_in : Outcome State → ℕ
index_in (good s) = s.progress.index
index_in (refused number place) = 0

pub in-numbers : CallExample × Separates
unfolding choose check and_then is_good sweep both every cross leg_of minus level_leg_of dot3_of square3_of minor_size cross_size opposite_of signed_between inside_of in_area_of padded mode_of courses_fit pair_number corner_number pairs_of corners_of legs_of geometry_on rules_on u16_at u32_at i32_at walk_by walk table row_in row_of optional knows between point_in point_rule value_rule known_rule judge after gather word_of flag_of mode_word state_words marked_of version_of serial_of area_of area_fits header_of records_of parts_of settle_of rules_in finish_of body_of load_of loaded_of load_state next_root root_by root_of nearest_of wrap_of series scaled_sine sine_of quarter turned direction_of edge_north edge_east reaches climb bearing_in bearing_by bearing_of level_of plus dot_of square_of vector_length sideways_of half_plane met_of decimetres_of in_limit all_in_limit position_of of_bits from_of leg_guide line_guide leg_ended last_leg_guide line_heading zero_of radius_fits given_of point_fits course_fits values_fit place_fits places_fit stands_of last_index on_last_leg last_phase at_end index_fits phase_fits end_fits placed_of valid_of guide_of next_of refuse_of moved_of located_step step_of u16_bytes u32_bytes i32_bytes flat point_bytes with_header point_records radius_record listed plan_records file_of kind_of command_sense answer_words command_numbers mode_at word_at holds_state taken_of carried_since write_of fix_words fix_numbers fix_number fix_next write_from reply_to words_after replies words_in_the_end leg_number line_command leg_heading line_angle signed_course place_metres leg_metres metres_of quotient_of div of_int load_result serial_in index_in
in-numbers = (
  record {
    loaded = refl;
    in_bytes = all-bytes example refl;
    one = λ alike. (alike 1 example ones ones (inl refl) refl refl refl refl).equal;
    two = λ alike. (alike 2 example ones ones (inr refl) refl refl refl refl).equal;
    replied = refl;
    ended = refl;
    none = refl;
    left = refl;
    empty = refl;
  },
  record {
    unloaded = λ h. let e : ◌≡◌ {A = ℕ} 0 7 = ap serial_in (h.loaded refl (loaded_of (load_of 3 example)).state refl).taken in absurd (omega (arith, e));
    uncleared = λ h. let e : ◌≡◌ {A = ℕ} 1 0 = ap serial_in (h.empty refl 3 0 refl).1.taken in absurd (omega (arith, e));
    unmoved = λ h. let e : ◌≡◌ {A = ℕ} 2 3 = ap index_in (h.next refl (loaded_of (load_of 3 example)).state refl).taken in absurd (omega (arith, e));
    moved = λ h. let e : ◌≡◌ {A = ℕ} 3 2 = ap (λ (ws : List ℤ). index_in (taken_of ws)) (h.untouched (λ z. omega (arith, z))) in absurd (omega (arith, e));
  },
)

pub lengths : Lengths
unfolding choose both word_of loaded_of written_of buffer_of pair_fits fix_fits load_result load_state load_answer write_file write_answer
lengths =
    record {
      load = (refl, (refl, refl));
      fix = (refl, (refl, (refl, refl)));
      write = (refl, (refl, refl));
      misfit = λ x. (refl, (refl, refl));
      place = refl;
      length = refl;
      unwritten = refl;
      bytes = refl;
    }

pub distance-example : DistanceExample
unfolding choose check and_then is_good sweep both every cross leg_of level_of plus minus level_leg_of dot_of square_of vector_length next_root root_by root_of dot3_of minor_size cross_size opposite_of signed_between inside_of in_area_of zero_of radius_fits mode_of courses_fit pair_number corner_number leg_number pairs_of corners_of legs_of geometry_on rules_on given_of point_fits course_fits values_fit place_fits places_fit stands_of last_index on_last_leg last_phase at_end index_fits phase_fits end_fits placed_of valid_of mode_at word_at holds_state taken_of pair_fits word_of refusal_of total level_length leg_length corner_arc length_from entry_of entries_from entries_of distances_of table_of distance_of distance_by distances_in distance_in distances_result distances_table distances_answer distance_result distance_answer
distance-example =
    record {
      told = refl;
      short = refl;
      first = refl;
      last = refl;
      none = (refl, refl);
      stays = λ stay s h v. ap (λ (ws : List ℤ). distances_in (taken_of ws) 4) (sym in-numbers.0.ended) ∙ stay (words_at (pos 2) (pos 0)) s h v calls 4;
      fit = (refl, (refl, refl));
      fits = (refl, (refl, refl));
      entries = refl;
      answered = refl;
      measured = refl;
      refusal = refl;
      misfit = (refl, refl);
    }
