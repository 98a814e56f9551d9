-- The parts of a plan that stands, its radius, points and courses: the versions since its mode's can carry them, the rules pass them, and the
-- plan that they make is that plan. Assumes nothing.
use mathlib.Core.Path.{◌≡◌, refl, sym, ap, ◌∙◌}
use mathlib.Core.Bool.{Bool, true}
use mathlib.Core.List.{List}
use Prim.Native.Nat.{ℕ, zero, suc, ◌+◌, ◌-◌, ◌≤◌, ◌<◌}
use native.Mathlib.Omega.{arith}
use lib.Dec.{ltb}
use lib.IntN.{ℤ, pos}
use lib.ListN.{length, get_or, get_or-eq_default}
use lib.Seq.{ext_get_or}
use borrow.Author.Tests.{eqb-true, ltb-true, ltb-false, le-ltb}
use Rattle.conditions.proofs.ChooseLaws.{choose-false}
use Rattle.conditions.proofs.Bools.{by_bool, both_first, both-second}
use Rattle.refusals.specs.Outcome.{is_good}
use Rattle.refusals.proofs.SweepLaws.{every-means}
use Rattle.plane.specs.declared.Point.{Point}
use Rattle.plan.specs.declared.Mode.{Mode}
use Rattle.plan.specs.declared.Mode.TheVariants.{Lines, Fillets, Dubins}
use Rattle.plan.specs.declared.Plan.{Plan}
use Rattle.plan.specs.Limits.{most_points, full_circle, inside_of, zero_of, radius_fits}
use Rattle.plan.specs.Places.{no_point, courses_at, number_at, place_at, course_at, plan_point, plan_course, padded, Filled}
use Rattle.plan.specs.Rules.{mode_of, rules_on}
use Rattle.plan.specs.Stands.{given_of, point_fits, course_fits, values_fit, place_fits, places_fit, stands_of}
use Rattle.plan.specs.Loaded.{plan_of}
use Rattle.plan.proofs.BlockLaws.{padded-length}
use Rattle.plan.proofs.LimitLaws.{zero-means, arc-least, arc-most}
use Rattle.plan.proofs.LoadedLaws.{given-le}
use Rattle.plan.proofs.PlaceLaws.{rules-padded}
use Rattle.plan.proofs.PlannedLaws.{padded-within}
use Rattle.plan.proofs.StandLaws.{stands-tests, places-mean, mode-given}
use Rattle.writer.specs.File.{listed, points_of, courses_of}
use Rattle.writer.proofs.PlaceLaws.{listed-length}
use Rattle.wpl.specs.Load.{rules_in}
use Rattle.wpl.specs.Write.{carried_since}
use Rattle.wpl.proofs.PlanRecordLaws.{RadiusCarried, PointsCarried, Carried, parts_of_plan}

-- ---- an array that holds a number of each of k elements, and zeros behind them, holds their list
listed_at : {A : Type 0} (at : ℕ → A) (k j i : ℕ) (d : A) → i < k → get_or (listed at k j) i d ≡ at (j + i)
unfolding listed
listed_at at zero j i d h = absurd (omega arith)
listed_at at (suc k) j zero d h = let e : j + 0 ≡ j = omega arith in rw e
listed_at at (suc k) j (suc i) d h =
    let e : j + suc i ≡ j + 1 + i = omega arith in
    rw e (listed_at at k (j + 1) i d (omega arith))

module _ {A : Type 0} (f : A → ℤ) (d : A) (at : ℕ → A) (k : ℕ) (numbers : List ℤ) (all : length numbers ≡ most_points) where
  kept : ((i : ℕ) → i < most_points → f (at i) ≡ get_or numbers i (f d)) → ((i : ℕ) → k ≤ i → i < most_points → get_or numbers i (f d) ≡ f d)
      → padded f most_points (f d) (listed at k 0) ≡ numbers
  kept used unused =
      ext_get_or (f d) _ numbers (padded-length f most_points (f d) (listed at k 0) ∙ sym all)
      (λ i l.
      let h : i < most_points = omega (arith, padded-length f most_points (f d) (listed at k 0)) in
      padded-within f most_points d (listed at k 0) i h
      ∙ by_bool (ltb i k)
      (λ t. ap f (listed_at at k 0 i d (ltb-true i k t)) ∙ (let e : 0 + i ≡ i = omega arith in rw e (used i h)))
      (λ u.
      let n = listed-length at k 0 in
      ap f (get_or-eq_default (listed at k 0) d {n = i} (omega (arith, ltb-false i k u))) ∙ sym (unused i (ltb-false i k u) h)))

-- ---- what a mode needs of a version
since-radius : (mode : Mode) (R v : ℕ) → radius_fits mode R ≡ true → carried_since mode ≤ v → RadiusCarried v R
unfolding radius_fits carried_since
since-radius Lines R v h c n = absurd (n (eqb-true R 0 h))
since-radius Fillets R v h c n = (c, (arc-least R h, arc-most R h))
since-radius Dubins R v h c n = (omega arith, (arc-least R h, arc-most R h))

since-course : (mode : Mode) (n i v : ℕ) → carried_since mode ≤ v → i < given_of mode n → 3 ≤ v
unfolding carried_since given_of
since-course Lines n i v c h = absurd (omega arith)
since-course Fillets n i v c h = absurd (omega arith)
since-course Dubins n i v c h = c

module _ (p : Plan) (filled : Filled p) (stands : stands_of p ≡ true) where
  abbrev given : ℕ
  given = given_of p.head.mode p.head.count

  count_most : p.head.count ≤ most_points
  count_most = (stands-tests p stands).most

  given-most : given ≤ most_points
  given-most = omega (arith, count_most, given-le p.head.mode p.head.count)

  pub points-length : length (points_of p) ≡ p.head.count
  points-length = listed-length (plan_point p) p.head.count 0

  courses-length : length (courses_of p) ≡ given
  courses-length = listed-length (plan_course p) given 0

  -- ---- the places from the count on
  place-fits : (i : ℕ) → i < most_points → place_fits p i ≡ true
  unfolding places_fit
  place-fits i l = every-means (place_fits p) (most_points - 0) 0 (stands-tests p stands).places i (omega arith) (omega arith)

  point-unused : (i : ℕ) → p.head.count ≤ i → i < most_points → zero_of (plan_point p i) ≡ true
  unfolding place_fits values_fit point_fits
  point-unused i h l = sym (choose-false _ _ _ (le-ltb i p.head.count h)) ∙ both_first _ _ (place-fits i l)

  north-unused : (i : ℕ) → p.head.count ≤ i → i < most_points → number_at p.norths i ≡ pos 0
  unfolding zero_of inside_of
  north-unused i h l = zero-means _ (both_first _ _ (point-unused i h l))

  east-unused : (i : ℕ) → p.head.count ≤ i → i < most_points → number_at p.easts i ≡ pos 0
  unfolding zero_of inside_of
  east-unused i h l = zero-means _ (both_first _ _ (both-second _ _ (point-unused i h l)))

  down-unused : (i : ℕ) → p.head.count ≤ i → i < most_points → number_at p.downs i ≡ pos 0
  unfolding zero_of inside_of
  down-unused i h l = zero-means _ (both-second _ _ (both-second _ _ (point-unused i h l)))

  course-unused : (i : ℕ) → given ≤ i → i < most_points → number_at p.courses i ≡ pos 0
  unfolding place_fits values_fit course_fits
  course-unused i h l = zero-means _ (sym (choose-false _ _ _ (le-ltb i given h)) ∙ both-second _ _ (place-fits i l))

  norths-kept : padded (λ (q : Point). q.north) most_points (pos 0) (points_of p) ≡ p.norths
  norths-kept = kept (λ (q : Point). q.north) no_point (plan_point p) p.head.count p.norths filled.north (λ i l. refl) north-unused

  easts-kept : padded (λ (q : Point). q.east) most_points (pos 0) (points_of p) ≡ p.easts
  easts-kept = kept (λ (q : Point). q.east) no_point (plan_point p) p.head.count p.easts filled.east (λ i l. refl) east-unused

  downs-kept : padded (λ (q : Point). q.down) most_points (pos 0) (points_of p) ≡ p.downs
  downs-kept = kept (λ (q : Point). q.down) no_point (plan_point p) p.head.count p.downs filled.down (λ i l. refl) down-unused

  courses-kept : padded pos most_points (pos 0) (courses_of p) ≡ p.courses
  courses-kept =
      kept pos 0 (plan_course p) given p.courses filled.course (λ i l. sym ((places-mean p (stands-tests p stands).places).1 i l).sign) course-unused

  -- ---- the places below it
  point-used : PointsCarried (points_of p)
  point-used i l =
      let n = points-length in
      let m = count_most in
      let e : 0 + i ≡ i = omega arith in
      rw (listed_at (plan_point p) p.head.count 0 i no_point (omega arith), e) ((places-mean p (stands-tests p stands).places).0 i (omega arith))

  course-used : (i : ℕ) → i < length (courses_of p) → courses_at (courses_of p) i < full_circle
  course-used i l =
      let n = courses-length in
      let m = given-most in
      let e : 0 + i ≡ i = omega arith in
      rw (listed_at (plan_course p) given 0 i 0 (omega arith), e) ((places-mean p (stands-tests p stands).places).1 i (omega arith)).low

  -- ---- the plan
  mode-kept : mode_of p.head.radius (length (courses_of p)) ≡ p.head.mode
  mode-kept = ap (mode_of p.head.radius) courses-length ∙ mode-given p stands

  pub plan-kept : plan_of p.head.serial p.head.radius (points_of p) (courses_of p) ≡ p
  plan-kept =
      λ t.
      record {
        head = record { serial = p.head.serial; mode = mode-kept t; radius = p.head.radius; count = points-length t };
        norths = norths-kept t;
        easts = easts-kept t;
        downs = downs-kept t;
        courses = courses-kept t;
      }

  pub plan-rules : (g : Bool) → is_good (rules_in (parts_of_plan p g)) ≡ true
  unfolding rules_in
  plan-rules g =
      let n : length (points_of p) ≤ most_points = omega (arith, points-length, count_most) in
      let m : length (courses_of p) ≤ most_points = omega (arith, courses-length, given-most) in
      ap is_good (sym (rules-padded _ _ _ _ (points_of p) (courses_of p) n m))
      ∙ (λ t.
      is_good
      (rules_on (mode-kept t) p.head.radius (courses-length t) (points-length t) (place_at (norths-kept t) (easts-kept t) (downs-kept t))
      (course_at (courses-kept t))))
      ∙ (stands-tests p stands).rules

  pub plan-carried : (v : ℕ) → carried_since p.head.mode ≤ v → Carried v p
  plan-carried v c =
      record {
        radius = since-radius p.head.mode p.head.radius v (stands-tests p stands).radius c;
        points = point-used;
        courses = λ i l. (since-course p.head.mode p.head.count i v c (omega (arith, courses-length)), course-used i l);
        fewer = omega (arith, points-length, courses-length, given-le p.head.mode p.head.count);
      }
