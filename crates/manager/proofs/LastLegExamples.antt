-- The examples of section 13 hold; those of `Finishes` and `Flies` are proved from these. Assumes nothing.
use mathlib.Core.Path.{◌≡◌, refl}
use mathlib.Core.Bool.{true, false}
use lib.Ieee.{of_bits}
use Rattle.std.specs.Prelude.{Some}
use Rattle.conditions.specs.Choose.{choose}
use Rattle.conditions.specs.Both.{both}
use Rattle.integers.specs.Root.{next_root, root_by, root_of}
use Rattle.integers.specs.Round.{nearest_of}
use Rattle.integers.specs.Wrap.{wrap_of}
use Rattle.refusals.specs.Outcome.{check, and_then, is_good}
use Rattle.refusals.specs.Sweep.{sweep, every}
use Rattle.course.specs.Table.{series, scaled_sine, sine_of}
use Rattle.course.specs.Vectors.{cross}
use Rattle.course.specs.Direction.{quarter, turned, direction_of}
use Rattle.course.specs.Bearing.{edge_north, edge_east, reaches, climb, bearing_in, bearing_by, bearing_of}
use Rattle.course.specs.Offset.{offset_of}
use Rattle.plane.specs.declared.Point.{Point}
use Rattle.plane.specs.Area.{leg_of, level_of}
use Rattle.plane.specs.Level.{plus, minus, level_leg_of, dot_of, square_of, vector_length, sideways_of}
use Rattle.plane.specs.Half.{dot3_of, square3_of, half_plane, met_of, minor_size, cross_size, opposite_of}
use Rattle.units.specs.declared.Fix.{Fix}
use Rattle.units.specs.Decimetres.{decimetres_of, in_limit}
use Rattle.units.specs.Position.{all_in_limit, position_of}
use Rattle.fillets.specs.Corners.{lesser_turn, turn_between, corner_turn, tangent_of, right_of, rounded_of, corner_of}
use Rattle.dubins.specs.Cases.{centre_of, circles_of, tangent_exists, starts_right, ends_right, same_side}
use Rattle.dubins.specs.Choice.{has_path_of, far_apart}
use Rattle.guidance.specs.Guide.{from_of, leg_guide, line_guide, circle_guide, past_of, fillet_line, fillet_circle, fillet_guide, leg_ended, last_leg_guide}
use Rattle.plan.specs.declared.Mode.TheVariants.{Lines, Fillets, Dubins}
use Rattle.plan.specs.Limits.{signed_between, inside_of, in_area_of, zero_of, arc_radius, radius_fits}
use Rattle.plan.specs.Places.{padded}
use Rattle.plan.specs.Rules.{mode_of, courses_fit, pair_number, corner_number, tangent_at, tangent_number, ends_number, leg_number, pairs_of, corners_of, legs_of, geometry_on, rules_on}
use Rattle.plan.specs.Stands.{given_of, point_fits, course_fits, values_fit, place_fits, places_fit, stands_of}
use Rattle.manager.specs.declared.State.{State}
use Rattle.manager.specs.State.{last_index, on_last_leg, last_phase, at_end, index_fits, phase_fits, end_fits, placed_of, valid_of}
use Rattle.manager.specs.Step.{guide_of, next_of, refuse_of, moved_of, located_step, step_of}
use Rattle.manager.specs.LastLeg.{lowered, state, at_the_last, almost_there, accepts, LastLegHolds, LastLeg}
use Rattle.manager.proofs.AnswerExamples.{each}
use Rattle.manager.proofs.FinishLaws.{finishes}
use Rattle.manager.proofs.FliesLaws.{flies}

accepted : (s : State) (fix : Fix) (p : Point) → valid_of s ≡ true → 7 ≡ s.plan.head.serial → position_of fix ≡ Some p → LastLegHolds (accepts s fix)
accepted s fix p v e at =
    let f = flies s 7 fix in
    (f.accepted v e p at, (f.plain, (f.keeps, f.onward v)))

pub last-leg : LastLeg
unfolding choose next_root root_by root_of nearest_of wrap_of check and_then is_good sweep both every series scaled_sine sine_of cross quarter turned direction_of edge_north edge_east reaches climb bearing_in bearing_by bearing_of offset_of leg_of level_of plus minus level_leg_of dot_of square_of vector_length sideways_of dot3_of square3_of half_plane met_of minor_size cross_size opposite_of decimetres_of in_limit all_in_limit position_of of_bits lesser_turn turn_between corner_turn tangent_of right_of rounded_of corner_of from_of leg_guide line_guide circle_guide past_of fillet_line fillet_circle fillet_guide leg_ended last_leg_guide signed_between inside_of in_area_of zero_of arc_radius radius_fits padded mode_of courses_fit pair_number corner_number tangent_at tangent_number leg_number pairs_of corners_of legs_of geometry_on rules_on given_of point_fits course_fits values_fit place_fits places_fit stands_of last_index on_last_leg last_phase at_end index_fits phase_fits end_fits placed_of valid_of guide_of next_of refuse_of moved_of located_step step_of starts_right ends_right same_side centre_of circles_of tangent_exists has_path_of far_apart ends_number
last-leg =
    record {
      passed = each.0;
      ended = each.1.0;
      refused = each.1.1;
      finished = (
        (finishes (state Lines 3 1 false) 7 at_the_last).sets refl refl refl,
        (
          (finishes (state Fillets 3 1 false) 7 at_the_last).sets refl refl refl,
          (
            (finishes (state Dubins 3 5 false) 7 at_the_last).sets refl refl refl,
            ((finishes (state Lines 3 1 true) 7 almost_there).stays refl, ((finishes (state Fillets 3 1 true) 7 almost_there).stays refl, ((finishes (state Dubins 3 5 true) 7 almost_there).stays refl, tt))),
          ),
        ),
      );
      flown = (
        accepted (state Lines 2 1 false) almost_there (lowered 1000 999 500) refl refl refl,
        (accepted (state Fillets 2 1 false) almost_there (lowered 1000 999 500) refl refl refl, (accepted (state Dubins 2 1 false) almost_there (lowered 1000 999 500) refl refl refl, tt)),
      );
    }
