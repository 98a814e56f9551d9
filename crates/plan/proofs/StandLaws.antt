-- Refusal 14's part on the plan: the tests of a plan that stands, and what they give whoever flies it. Assumes nothing.
use mathlib.Core.Path.{◌≡◌, ap, ◌∙◌, subst}
use mathlib.Core.Bool.{Bool, true, false, not}
use mathlib.Core.List.{List}
use Prim.Native.Nat.{ℕ, ◌+◌, ◌-◌, ◌≤◌, ◌<◌}
use native.Mathlib.Omega.{arith}
use lib.Dec.{eqb, ltb}
use lib.IntN.{ℤ}
use borrow.Author.Tests.{eqb-false, leb-true, le-leb, ne_eqb, not-true}
use Rattle.conditions.specs.Choose.{choose}
use Rattle.conditions.specs.Both.{both}
use Rattle.conditions.proofs.Bools.{by_bool, both-on, both_first, both-second}
use Rattle.refusals.specs.Outcome.{is_good}
use Rattle.refusals.specs.Sweep.{every}
use Rattle.refusals.proofs.SweepLaws.{every-means, every-same, every-both, every-change}
use Rattle.plane.specs.declared.Point.{Point}
use Rattle.plane.specs.Area.{InArea}
use Rattle.plane.specs.Level.{level_leg_of, vector_length}
use Rattle.plan.specs.declared.Mode.{Mode}
use Rattle.plan.specs.declared.Mode.TheVariants.{Lines, Fillets, Dubins}
use Rattle.plan.specs.declared.Plan.{Plan}
use Rattle.plan.specs.Limits.{fewest_points, most_points, most_level, most_down, most_radius, full_circle, signed_between, number_fits, radius_fits}
use Rattle.plan.specs.Places.{number_at, place_at, plan_point, plan_course}
use Rattle.plan.specs.Rules.{mode_of, tangent_at, corners_of, legs_of}
use Rattle.plan.specs.Stands.{given_of, point_fits, course_fits, values_fit, place_fits, places_fit, rules_of, stands_of, Ranged, Aimed, IsCourse, Placed, Aiming, ByMode, Stands}
use Rattle.plan.specs.Long.{Long}
use Rattle.plan.proofs.LimitLaws.{area-means, zero-area, course-means, point-numbers, arc-least, radius-most}
use Rattle.plan.proofs.RuleLaws.{corner-turns, leg-paths, leg-lengths, rules-passed}

-- ---- places
point-area : (used : Bool) (p : Point) → point_fits used p ≡ true → InArea p
unfolding point_fits choose
point-area true p h = area-means p h
point-area false p h = zero-area p h

course-low : (used : Bool) (χ : ℤ) → course_fits used χ ≡ true → IsCourse χ
unfolding course_fits choose
course-low true χ h = course-means (full_circle - 1) χ (omega arith) h
course-low false χ h = course-means 0 χ (omega arith) h

place-means : (p : Plan) → places_fit p ≡ true → (i : ℕ) → i < most_points
    → (point_fits (ltb i p.head.count) (plan_point p i) ≡ true) × (course_fits (ltb i (given_of p.head.mode p.head.count)) (number_at p.courses i) ≡ true)
unfolding places_fit place_fits values_fit
place-means p h i l =
    let e = every-means (place_fits p) (most_points - 0) 0 h i (omega arith) (omega arith) in
    (both_first _ _ e, both-second _ _ e)

pub places-mean : (p : Plan) → places_fit p ≡ true → Ranged p × Aimed p
places-mean p h =
    ((λ i l. point-area (ltb i p.head.count) (plan_point p i) (place-means p h i l).0), (λ i l. course-low (ltb i (given_of p.head.mode p.head.count)) (number_at p.courses i) (place-means p h i l).1))

-- ---- the places of each kind of number by themselves: those in use and the others
module _ (values : List ℤ) (used : ℕ) (low high : ℕ) where
  abbrev pub numbers_fit : Bool
  numbers_fit = every (λ (i : ℕ). number_fits (ltb i used) low high (number_at values i)) (most_points - 0) 0

  abbrev pub used_fit : Bool
  used_fit = every (λ (i : ℕ). signed_between low high (number_at values i)) (used - 0) 0

  abbrev pub unused_fit : Bool
  unused_fit = every (λ (i : ℕ). signed_between 0 0 (number_at values i)) (most_points - used) used

  pub number-parts : used ≤ most_points → numbers_fit ≡ both used_fit unused_fit
  number-parts l = every-change (λ (i : ℕ). signed_between low high (number_at values i)) (λ (i : ℕ). signed_between 0 0 (number_at values i)) used most_points l

-- all points
module _ (ns es ds : List ℤ) (n : ℕ) where
  abbrev pub points_fit : Bool
  points_fit = every (λ (i : ℕ). point_fits (ltb i n) (place_at ns es ds i)) (most_points - 0) 0

  abbrev pub norths_fit : Bool
  norths_fit = numbers_fit ns n most_level most_level

  abbrev pub easts_fit : Bool
  easts_fit = numbers_fit es n most_level most_level

  abbrev pub downs_fit : Bool
  downs_fit = numbers_fit ds n most_down most_down

  abbrev north : ℕ → Bool
  north i = number_fits (ltb i n) most_level most_level (number_at ns i)

  abbrev east : ℕ → Bool
  east i = number_fits (ltb i n) most_level most_level (number_at es i)

  abbrev down : ℕ → Bool
  down i = number_fits (ltb i n) most_down most_down (number_at ds i)

  pub points-parts : points_fit ≡ both norths_fit (both easts_fit downs_fit)
  points-parts =
      every-same (λ (i : ℕ). point_fits (ltb i n) (place_at ns es ds i)) (λ (i : ℕ). both (north i) (both (east i) (down i))) (most_points - 0) 0
      (λ i _ _. point-numbers (ltb i n) (place_at ns es ds i))
      ∙ every-both north (λ (i : ℕ). both (east i) (down i)) (most_points - 0) 0
      ∙ ap (both norths_fit) (every-both east down (most_points - 0) 0)

abbrev pub courses_fit : List ℤ → ℕ → Bool
courses_fit cs given = numbers_fit cs given 0 (full_circle - 1)

pub places-parts : (p : Plan) → places_fit p ≡ both (points_fit p.norths p.easts p.downs p.head.count) (courses_fit p.courses (given_of p.head.mode p.head.count))
unfolding places_fit place_fits values_fit course_fits
places-parts p =
    every-both (λ (i : ℕ). point_fits (ltb i p.head.count) (plan_point p i)) (λ (i : ℕ). course_fits (ltb i (given_of p.head.mode p.head.count)) (number_at p.courses i)) (most_points - 0) 0

-- what places that fit give, where all are there
pub placed-of : (p : Plan) → Long p.norths p.easts p.downs p.courses → Ranged p → (i : ℕ) → i < most_points → Placed p.norths p.easts p.downs i
placed-of p l r i h = record { there = record { north = omega (arith, l.north); east = omega (arith, l.east); down = omega (arith, l.down) }; area = r i h }

pub aiming_of : (p : Plan) → Long p.norths p.easts p.downs p.courses → Aimed p → (i : ℕ) → i < most_points → Aiming p.courses i
aiming_of p l a i h = record { there = omega (arith, l.course); course = a i h }

-- ---- the tests in order
pub record Tests (p : Plan) : Type 0 where
  pub serial : p.head.serial ≡ 0 → ⊥
  pub most : p.head.count ≤ most_points
  pub radius : radius_fits p.head.mode p.head.radius ≡ true
  pub places : places_fit p ≡ true
  pub rules : is_good (rules_of p (given_of p.head.mode p.head.count)) ≡ true

module _ (p : Plan) where
  pub stands-rules : (p.head.serial ≡ 0 → ⊥) → p.head.count ≤ most_points → radius_fits p.head.mode p.head.radius ≡ true → places_fit p ≡ true
      → stands_of p ≡ is_good (rules_of p (given_of p.head.mode p.head.count))
  unfolding stands_of
  stands-rules s m r h = both-on _ _ (ap not (ne_eqb p.head.serial 0 s)) ∙ both-on _ _ (le-leb p.head.count most_points m) ∙ both-on _ _ r ∙ both-on _ _ h

  pub tests-stand : Tests p → stands_of p ≡ true
  tests-stand t = stands-rules t.serial t.most t.radius t.places ∙ t.rules

  pub stands-tests : stands_of p ≡ true → Tests p
  unfolding stands_of
  stands-tests h =
      let a = both-second _ _ h in
      let b = both-second _ _ a in
      let c = both-second _ _ b in
      record {
        serial = eqb-false p.head.serial 0 (not-true (eqb p.head.serial 0) (both_first _ _ h));
        most = leb-true p.head.count most_points (both_first _ _ a);
        radius = both_first _ _ b;
        places = both_first _ _ c;
        rules = both-second _ _ c;
      }

  pub stands-fails : (Tests p → ⊥) → stands_of p ≡ false
  stands-fails f = by_bool (stands_of p) (λ t. absurd (f (stands-tests t))) (λ u. u)

-- ---- what they mean
by_mode : (p : Plan) (mode : Mode) → p.head.radius ≤ most_radius → Aimed p → is_good (corners_of mode p.head.count (plan_point p)) ≡ true
    → is_good (legs_of mode p.head.radius p.head.count (plan_point p) (plan_course p)) ≡ true → ByMode mode p
by_mode p Lines r a c l = tt
by_mode p Fillets r a c l = (r, corner-turns p.head.count (plan_point p) c)
by_mode p Dubins r a c l = (r, (a, leg-paths p.head.radius p.head.count (plan_point p) (plan_course p) l))

pub stands-means : (p : Plan) → stands_of p ≡ true → Stands p
stands-means p h =
    let t = stands-tests p h in
    let n = places-mean p t.places in
    let r = rules-passed p.head.mode p.head.radius (given_of p.head.mode p.head.count) p.head.count (plan_point p) (plan_course p) t.rules in
    record { least = r.least; most = r.most; ranged = n.0; mode = by_mode p p.head.mode (radius-most p.head.mode p.head.radius t.radius) n.1 r.corners r.legs }

-- a fillet leg is as long as the tangent lengths at its ends
pub stands-lengths : (p : Plan) → stands_of p ≡ true → p.head.mode ≡ Fillets → (i : ℕ) → 1 ≤ i → i < p.head.count
    → tangent_at p.head.radius p.head.count (plan_point p) (i - 1) + tangent_at p.head.radius p.head.count (plan_point p) i ≤ vector_length (level_leg_of (plan_point p (i - 1)) (plan_point p i))
stands-lengths p h m =
    let r = rules-passed p.head.mode p.head.radius (given_of p.head.mode p.head.count) p.head.count (plan_point p) (plan_course p) (stands-tests p h).rules in
    leg-lengths p.head.radius p.head.count (plan_point p) (plan_course p)
    (subst (λ (x : Mode). is_good (legs_of x p.head.radius p.head.count (plan_point p) (plan_course p)) ≡ true) m r.legs)

-- ---- the mode is that of the radius and of the number of courses
fit-mode : (mode : Mode) (R n : ℕ) → radius_fits mode R ≡ true → fewest_points ≤ n → mode_of R (given_of mode n) ≡ mode
unfolding radius_fits mode_of given_of choose
fit-mode Lines R n h l = rw h
fit-mode Fillets R n h l = let r : eqb R 0 ≡ false = ne_eqb R 0 (λ e. omega (arith, arc-least R h)) in rw r
fit-mode Dubins R n h l =
    let r : eqb R 0 ≡ false = ne_eqb R 0 (λ e. omega (arith, arc-least R h)) in
    let g : eqb n 0 ≡ false = ne_eqb n 0 (λ e. omega arith) in
    rw (r, g)

pub mode-given : (p : Plan) → stands_of p ≡ true → mode_of p.head.radius (given_of p.head.mode p.head.count) ≡ p.head.mode
mode-given p h = fit-mode p.head.mode p.head.radius p.head.count (stands-tests p h).radius (stands-means p h).least
