-- The plan that a file's lists make stands, once the rules have passed the lists. Assumes nothing.
use mathlib.Core.Path.{◌≡◌, refl, sym, ap, ◌∙◌}
use mathlib.Core.Bool.{Bool, true, false, not}
use mathlib.Core.List.{List}
use mathlib.Core.Logic.{◌⊎◌, ⊎_elim}
use Prim.Native.Nat.{ℕ, ◌-◌, ◌≤◌, ◌<◌}
use native.Mathlib.Omega.{arith}
use lib.Dec.{eqb, ltb}
use lib.IntN.{pos}
use lib.ListN.{length, get_or-eq_default}
use borrow.Author.Tests.{eqb-true, eqb-false, ltb-true, ltb-false}
use Rattle.conditions.specs.Choose.{choose}
use Rattle.conditions.specs.Both.{both}
use Rattle.conditions.proofs.ChooseLaws.{choose-true, choose-false}
use Rattle.conditions.proofs.Bools.{by_bool, clash, both_true}
use Rattle.refusals.specs.Outcome.{is_good}
use Rattle.refusals.proofs.SweepLaws.{every_of}
use Rattle.plane.specs.declared.Point.{Point}
use Rattle.plane.specs.Area.{InArea}
use Rattle.plan.specs.declared.Mode.{Mode}
use Rattle.plan.specs.declared.Mode.TheVariants.{Lines, Fillets, Dubins}
use Rattle.plan.specs.Limits.{most_points, least_radius, most_radius, full_circle, signed_between, inside_of, zero_of, arc_radius, radius_fits}
use Rattle.plan.specs.Places.{no_point, points_at, courses_at}
use Rattle.plan.specs.Rules.{mode_of, courses_fit}
use Rattle.plan.specs.Stands.{given_of, point_fits, course_fits, values_fit, place_fits, places_fit, rules_of, stands_of}
use Rattle.plan.specs.Loaded.{plan_of, Loadable}
use Rattle.plan.proofs.LimitLaws.{area-test, arc-test, course-test}
use Rattle.plan.proofs.PlaceLaws.{padded-at, points-padded, rules-padded}
use Rattle.plan.proofs.RuleLaws.{Passed, rules-passed}
use Rattle.plan.proofs.StandLaws.{tests-stand}

-- ---- the mode of a radius and of courses that pass 9
given_by : (given n : ℕ) (r g : Bool) → eqb given 0 ≡ g → choose g true (both (not r) (eqb given n)) ≡ true
    → given_of (choose r Lines (choose g Fillets Dubins)) n ≡ given
unfolding choose both given_of
given_by given n true true e h = sym (eqb-true given 0 e)
given_by given n false true e h = sym (eqb-true given 0 e)
given_by given n true false e h = clash false h refl
given_by given n false false e h = sym (eqb-true given n h)

-- it has as many courses as were given
pub given-mode : (R given n : ℕ) → courses_fit R given n ≡ true → given_of (mode_of R given) n ≡ given
unfolding courses_fit mode_of
given-mode R given n h = given_by given n (eqb R 0) (eqb given 0) refl h

pub given-le : (mode : Mode) (n : ℕ) → given_of mode n ≤ n
unfolding given_of
given-le Lines n = omega arith
given-le Fillets n = omega arith
given-le Dubins n = omega arith

radius-by : (R : ℕ) (r g : Bool) → eqb R 0 ≡ r → (r ≡ false → arc_radius R ≡ true) → radius_fits (choose r Lines (choose g Fillets Dubins)) R ≡ true
unfolding choose radius_fits
radius-by R true g e f = e
radius-by R false true e f = f refl
radius-by R false false e f = f refl

mode-radius : (R given : ℕ) → (R ≡ 0) ⊎ ((least_radius ≤ R) × (R ≤ most_radius)) → radius_fits (mode_of R given) R ≡ true
unfolding mode_of
mode-radius R given h =
    radius-by R (eqb R 0) (eqb given 0) refl
    (λ u. ⊎_elim (λ z. absurd (eqb-false R 0 u z)) (λ k. arc-test R k.0 k.1) h)

-- ---- the places
none-zero : zero_of no_point ≡ true
unfolding zero_of inside_of signed_between both
none-zero = refl

point-listed : (ps : List Point) → ((i : ℕ) → i < length ps → InArea (points_at ps i)) → (i : ℕ) → point_fits (ltb i (length ps)) (points_at ps i) ≡ true
unfolding point_fits
point-listed ps h i =
    by_bool (ltb i (length ps))
    (λ t. choose-true _ _ _ t ∙ area-test (points_at ps i) (h i (ltb-true i (length ps) t)))
    (λ u. choose-false _ _ _ u ∙ ap zero_of (get_or-eq_default ps no_point {n = i} (ltb-false i (length ps) u)) ∙ none-zero)

course-listed : (cs : List ℕ) → ((i : ℕ) → i < length cs → courses_at cs i < full_circle) → (i : ℕ) → course_fits (ltb i (length cs)) (pos (courses_at cs i)) ≡ true
unfolding course_fits
course-listed cs h i =
    by_bool (ltb i (length cs))
    (λ t. choose-true _ _ _ t ∙ course-test (full_circle - 1) (courses_at cs i) (omega (arith, h i (ltb-true i (length cs) t))))
    (λ u. choose-false _ _ _ u ∙ course-test 0 (courses_at cs i) (omega (arith, get_or-eq_default cs 0 {n = i} (ltb-false i (length cs) u))))

-- ---- the plan
module _ (serial R : ℕ) (ps : List Point) (cs : List ℕ) (l : Loadable serial R ps cs) where
  passed : Passed (mode_of R (length cs)) R (length cs) (length ps) (points_at ps) (courses_at cs)
  passed = rules-passed (mode_of R (length cs)) R (length cs) (length ps) (points_at ps) (courses_at cs) l.rules

  given : given_of (mode_of R (length cs)) (length ps) ≡ length cs
  given = given-mode R (length cs) (length ps) passed.courses

  few : length cs ≤ most_points
  few = omega (arith, given, passed.most, given-le (mode_of R (length cs)) (length ps))

  places : places_fit (plan_of serial R ps cs) ≡ true
  unfolding places_fit place_fits values_fit
  places =
      every_of (place_fits (plan_of serial R ps cs)) (most_points - 0) 0
      (λ i _ _.
      both_true _ _
      (ap (point_fits (ltb i (length ps))) (points-padded ps passed.most i) ∙ point-listed ps l.ranged i)
      ((λ t. course_fits (ltb i (given t)) (padded-at pos most_points 0 cs few i t)) ∙ course-listed cs l.aimed i))

  pub loaded-stands : stands_of (plan_of serial R ps cs) ≡ true
  loaded-stands =
      tests-stand (plan_of serial R ps cs)
      (record {
        serial = l.numbered;
        most = passed.most;
        radius = mode-radius R (length cs) l.radius;
        places = places;
        rules =
            ap (λ (g : ℕ). is_good (rules_of (plan_of serial R ps cs) g)) given
            ∙ ap is_good (rules-padded (mode_of R (length cs)) R (length cs) (length ps) ps cs passed.most few)
            ∙ l.rules;
      })
