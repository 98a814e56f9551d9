-- A load, check by check: what the header's tests give, how a refusal ends the chain, and that the rules judge the plan in its arrays as they judge
-- the lists of the file. Assumes nothing.
use mathlib.Core.Path.{◌≡◌, refl, sym, ap, subst, ◌∙◌}
use mathlib.Core.Bool.{true, false}
use mathlib.Core.List.{List, [], ◌∷◌, append-nil}
use mathlib.Core.Logic.{⊎_elim}
use Prim.Native.Nat.{ℕ, ◌+◌, ◌-◌, ◌≤◌, ◌<◌}
use native.Mathlib.Omega.{arith}
use lib.Dec.{eqb, leb, ltb}
use lib.IntN.{ℤ, pos}
use Rattle.std.proofs.Common.{Result, Ok, Err, nat_eq}
use Rattle.std.specs.List.{starts_with}
use Rattle.std.specs.Result.{IsErrAnd}
use Rattle.conditions.specs.Both.{both}
use lib.ListN.{length, take, drop, length-drop, drop_of_length-le, get_or-eq_default}
use lib.Seq.{length-take-le}
use borrow.Author.Tests.{le-leb, lt-leb, lt-ltb, le-ltb, eq-eqb, ne_eqb, ltb-true, ltb-false, eqb-true, eqb-false}
use Rattle.conditions.proofs.ChooseLaws.{choose-false}
use Rattle.conditions.proofs.Bools.{by_bool, clash, both-on, both-second, both-off, both-off-second}
use Rattle.conditions.specs.Between.{between}
use Rattle.integers.proofs.BoundLaws.{within-lit}
use Rattle.refusals.specs.declared.Refusal.{Refusal}
use Rattle.refusals.specs.Numbers.{file_too_short, no_mark, no_version, no_serial, wrong_area}
use Rattle.refusals.specs.Outcome.{Outcome, good, refused, check, and_then, refusal_of, is_good}
use Rattle.refusals.specs.Sweep.{Done, done, passed_of}
use Rattle.refusals.proofs.OutcomeLaws.{Proper, proper-good, proper-check, proper-then, check-true, check-false, then-good, then-means, then-stops, never-good}
use Rattle.refusals.proofs.SweepLaws.{good-is}
use Rattle.buffers.specs.Splice.{over, zeroed}
use Rattle.buffers.proofs.FillLaws.{zeros_of, zeros-length}
use Rattle.plane.specs.Area.{InArea}
use Rattle.plane.specs.declared.Point.{Point}
use Rattle.plan.specs.declared.Head.{Head}
use Rattle.plan.specs.declared.Plan.{Plan}
use Rattle.plan.specs.Limits.{fewest_points, most_points, full_circle}
use Rattle.plan.specs.Places.{no_point, points_at, courses_at, padded, seen, block, plan_numbers, numbers_of, planned_in, Filled}
use Rattle.plan.specs.Rules.{mode_of, courses_fit}
use Rattle.plan.specs.Stands.{IsCourse, Bounded, rules_of}
use Rattle.plan.specs.Long.{Long}
use Rattle.plan.specs.Loaded.{plan_of}
use Rattle.plan.proofs.PlannedLaws.{filled-long, planned-filled, planned-back, padded-filled, padded-within, point-within}
use Rattle.plan.proofs.PlaceLaws.{rules-padded}
use Rattle.plan.proofs.RuleLaws.{rules-few, rules-many, rules-courses, rules-proper, rules-passed}
use Rattle.manager.specs.declared.Progress.{Progress}
use Rattle.manager.specs.declared.State.{State}
use Rattle.manager.specs.State.{empty_plan, empty_state, first_progress, start_of}
use Rattle.records.specs.Versions.{newest}
use Rattle.records.specs.Kinds.{Parts, no_parts}
use Rattle.records.specs.Gather.{header_length, gather_from, InRange}
use Rattle.records.specs.declared.Gathered.{Gathered}
use Rattle.records.specs.Held.{counted, answer_of, gathered_of, numbers_in}
use Rattle.records.specs.Walk.{walk}
use Rattle.records.proofs.GatherLaws.{gather-ranged, none-ranged, gather-proper, gathered-good, gathered-refused}
use Rattle.wpl.specs.declared.Loaded.{Loaded}
use Rattle.wpl.specs.declared.Entered.{Entered}
use Rattle.wpl.specs.Header.{most_area, marked_of, version_of, serial_of, area_of, area_fits, header_of}
use Rattle.wpl.specs.Load.{records_of, parts_of, settle_of, rules_in, finish_of, body_of, load_of, loaded_of, refused_of, head_from, head_in, entered_of}
use Rattle.wpl.proofs.LoadStepLaws.{load-steps}

-- ---- refusals 1 to 5
module _ (f : List ℕ) (n : ℕ) (e : n ≡ area_of f) where
  pub area-equal : n ≡ length f - header_length → leb n most_area ≡ area_fits f
  unfolding area_fits
  area-equal k = ap (λ (m : ℕ). leb m most_area) e ∙ sym (both-on _ _ (eq-eqb _ _ (sym e ∙ k)))

  pub area-other : (n ≡ length f - header_length → ⊥) → area_fits f ≡ false
  unfolding area_fits
  area-other k = both-off _ _ (ne_eqb _ _ (λ q. k (e ∙ q)))

-- the mark, as the library compares it
eqb-swap : (x y : ℕ) → eqb x y ≡ eqb y x
eqb-swap x y =
    by_bool (eqb y x) (λ t. eq-eqb x y (sym (eqb-true y x t)) ∙ sym t) (λ t. ne_eqb x y (λ z. eqb-false y x t (sym z)) ∙ sym t)

pub mark_first : (f : List ℕ) → 3 ≤ length f → starts_with nat_eq f (0x57 ∷ 0x50 ∷ 0x4C ∷ []) ≡ marked_of f
unfolding marked_of both
mark_first [] h = absurd (omega arith)
mark_first (a ∷ []) h = absurd (omega arith)
mark_first (a ∷ b ∷ []) h = absurd (omega arith)
mark_first (a ∷ b ∷ c ∷ s) h =
    rw (eqb-swap 0x57 a, eqb-swap 0x50 b, eqb-swap 0x4C c)
    (by_bool (eqb a 0x57)
    (λ t. rw t (by_bool (eqb b 0x50) (λ u. rw u (by_bool (eqb c 0x4C) (λ v. rw v refl) (λ v. rw v refl))) (λ u. rw u refl)))
    (λ t. rw t refl))

module _ (f : List ℕ) where
  pub too_short : length f < header_length → header_of f ≡ refused file_too_short 0
  unfolding header_of
  too_short h = check-false _ file_too_short _ (lt-leb header_length (length f) h)

  module _ (long : header_length ≤ length f) where
    pub unmarked : marked_of f ≡ false → header_of f ≡ refused no_mark 0
    unfolding header_of check
    unmarked m = rw (le-leb header_length (length f) long, m)

    module _ (m : marked_of f ≡ true) where
      pub unversioned : version_of f ≡ 0 → header_of f ≡ refused no_version 0
      unfolding header_of check
      unversioned v = rw (le-leb header_length (length f) long, m, le-ltb 0 (version_of f) (omega (arith, v)))

      module _ (v : version_of f ≡ 0 → ⊥) where
        pub unnumbered : serial_of f ≡ 0 → header_of f ≡ refused no_serial 0
        unfolding header_of check
        unnumbered n =
            rw (le-leb header_length (length f) long, m, lt-ltb 0 (version_of f) (omega (arith, v)), le-ltb 0 (serial_of f) (omega (arith, n)))

        module _ (n : serial_of f ≡ 0 → ⊥) where
          last : header_of f ≡ check (area_fits f) wrong_area (good done)
          unfolding header_of check
          last =
              rw (le-leb header_length (length f) long, m, lt-ltb 0 (version_of f) (omega (arith, v)), lt-ltb 0 (serial_of f) (omega (arith, n)))

          pub misfit : area_fits f ≡ false → header_of f ≡ refused wrong_area 0
          misfit a = last ∙ check-false _ wrong_area _ a

          pub passes : area_fits f ≡ true → header_of f ≡ good done
          passes a = last ∙ check-true _ wrong_area _ a

  header-proper : Proper (header_of f)
  unfolding header_of
  header-proper =
      proper-check _ file_too_short _ refl
      (proper-check _ no_mark _ refl (proper-check _ no_version _ refl (proper-check _ no_serial _ refl (proper-check _ wrong_area _ refl (proper-good done)))))

  -- as the code answers it
  pub failed-passed : (n : ℕ) (x : Refusal) → x ≡ refusal_of (check false n (good done)) → header_of f ≡ refused n 0
      → ◌≡◌ {A = Result (Unit {0}) Refusal} (Err x) (passed_of (header_of f))
  unfolding refusal_of check passed_of
  failed-passed n x k h = rw (k, h) refl

pub passed-is-good : {A : Type 0} (o : Outcome A) (u : Unit {0}) → passed_of o ≡ Ok u → is_good o ≡ true
unfolding passed_of is_good
passed-is-good (good a) u h = refl
passed-is-good (refused n p) u h = cc

pub passed-good : (o : Outcome Done) (u : Unit {0}) → passed_of o ≡ Ok u → o ≡ good done
passed-good o u h = good-is o (passed-is-good o u h)

pub passed-refused : {A : Type 0} (o : Outcome A) (e : Refusal) → passed_of o ≡ Err e → o ≡ refused e.number e.place
unfolding passed_of
passed-refused (good a) e h = cc
passed-refused (refused n p) e h = let k : record { number = n; place = p } ≡ e = cc in ap (λ (x : Refusal). refused x.number x.place) k

-- ---- one check after another
pub refusal_is : {A : Type 0} (o : Outcome A) (n q : ℕ) → refusal_of o ≡ record { number = n; place = q } → (n ≡ 0 → ⊥) → o ≡ refused n q
unfolding refusal_of
refusal_is (good a) n q e h = absurd (h (sym (ap (λ (r : Refusal). r.number) e)))
refusal_is {A} (refused m p) n q e h = λ i. refused (e i).number (e i).place

module _ (r : ℕ) (f : List ℕ) where
  pub reader-wrong : between 1 newest r ≡ false → load_of r f ≡ refused no_version 0
  unfolding load_of
  reader-wrong t = check-false _ no_version _ t

  module _ (served : between 1 newest r ≡ true) where
    reader-right : load_of r f ≡ and_then (header_of f) (λ (_ : Done). body_of r f)
    unfolding load_of
    reader-right = check-true _ no_version _ served

    pub header-stops : (n p : ℕ) → header_of f ≡ refused n p → load_of r f ≡ refused n p
    header-stops n p h = reader-right ∙ then-stops (header_of f) n p _ h

    module _ (passed : header_of f ≡ good done) where
      header-passes : load_of r f ≡ body_of r f
      header-passes = reader-right ∙ then-good (header_of f) done _ passed

      pub records-stop : (m q : ℕ) → parts_of r f ≡ refused m q → load_of r f ≡ refused m q
      unfolding body_of
      records-stop m q k = header-passes ∙ then-stops (parts_of r f) m q _ k

      pub records-give : (a : Parts) → parts_of r f ≡ good a → load_of r f ≡ finish_of (serial_of f) a
      unfolding body_of settle_of and_then
      records-give a k = header-passes ∙ rw k

  -- no refusal has the number 0
  pub load-proper : Proper (load_of r f)
  unfolding load_of body_of parts_of settle_of finish_of rules_in
  load-proper =
      proper-check _ no_version _ refl
      (proper-then _ _ (header-proper f)
      (λ _. proper-then _ _ (gather-proper r (version_of f) (records_of f) header_length no_parts)
      (λ a. proper-then (good a) _ (proper-good a) (λ b. proper-then _ _ (rules-proper _ _ _ _ _ _) (λ _. proper-good _)))))

-- ---- the plan in its arrays: every place has a point of the list or none
none-in-area : InArea no_point
none-in-area = record { north = within-lit tt; east = within-lit tt; down = within-lit tt }

listed-area : (ps : List Point) → ((i : ℕ) → i < length ps → InArea (points_at ps i)) → (i : ℕ) → InArea (points_at ps i)
listed-area ps h i =
    by_bool (ltb i (length ps)) (λ t. h i (ltb-true _ _ t))
    (λ u. subst InArea (sym (get_or-eq_default ps no_point {n = i} (ltb-false _ _ u))) none-in-area)

listed-course : (cs : List ℕ) → ((i : ℕ) → i < length cs → courses_at cs i < full_circle) → (i : ℕ) → courses_at cs i < full_circle
listed-course cs h i =
    by_bool (ltb i (length cs)) (λ t. h i (ltb-true _ _ t)) (λ u. omega (arith, get_or-eq_default cs 0 {n = i} (ltb-false _ _ u)))

-- 9 has passed: no more courses than points
given-most : (R given n : ℕ) → n ≤ most_points → courses_fit R given n ≡ true → given ≤ most_points
unfolding courses_fit
given-most R given n h k =
    by_bool (eqb given 0) (λ t. let z = eqb-true given 0 t in omega arith)
    (λ u. let e = eqb-true given n (both-second _ _ (sym (choose-false _ _ _ u) ∙ k)) in omega arith)

-- ---- what `finish` makes of gathered parts
abbrev pub held_plan : ℕ → Parts → Plan
held_plan serial a =
    record {
      head =
          record {
            serial = serial;
            mode = mode_of a.radius (counted (length a.courses));
            radius = a.radius;
            count = counted (length a.points);
          };
      norths = padded (λ (p : Point). p.north) most_points (pos 0) a.points;
      easts = padded (λ (p : Point). p.east) most_points (pos 0) a.points;
      downs = padded (λ (p : Point). p.down) most_points (pos 0) a.points;
      courses = padded pos most_points (pos 0) a.courses;
    }

held-filled : (serial : ℕ) (a : Parts) → Filled (held_plan serial a)
held-filled serial a = padded-filled (held_plan serial a) a.points a.courses refl refl refl refl

pub planned-long : (numbers : List ℤ) → length numbers ≡ plan_numbers → Long (block 0 numbers) (block 1 numbers) (block 2 numbers) (block 3 numbers)
planned-long numbers e = filled-long (planned_in empty_plan.head numbers) (planned-filled numbers e empty_plan.head)

pub held-bounded : (serial : ℕ) (a : Parts) → InRange a → Bounded (held_plan serial a)
held-bounded serial a h =
    record {
      ranged = λ i l. subst InArea (sym (point-within a.points i l)) (listed-area a.points h.points i);
      radius = ⊎_elim (λ z. omega arith) (λ k. k.1) h.radius;
      aimed =
          λ i l.
          subst IsCourse (sym (padded-within pos most_points 0 a.courses i l))
          (record { sign = refl; low = listed-course a.courses h.courses i });
    }

module _ (serial : ℕ) (a : Parts) where
  abbrev Same : Type 0
  Same = rules_of (held_plan serial a) (counted (length a.courses)) ≡ rules_in a

  few : length a.points < fewest_points → Same
  unfolding rules_in
  few h =
      rules-few _ _ _ (counted (length a.points)) _ _ (omega arith) ∙ sym (rules-few _ _ _ (length a.points) _ _ h)

  many : most_points < length a.points → Same
  unfolding rules_in
  many h =
      rules-many _ _ _ (counted (length a.points)) _ _ (omega arith) (omega arith) ∙ sym (rules-many _ _ _ (length a.points) _ _ (omega arith) h)

  module _ (least : fewest_points ≤ length a.points) (most : length a.points ≤ most_points) where
    points-counted : counted (length a.points) ≡ length a.points
    points-counted = omega arith

    -- more courses than a plan has points
    some-only : (given : ℕ) → most_points < given → courses_fit a.radius given (length a.points) ≡ false
    unfolding courses_fit
    some-only given h =
        choose-false _ _ _ (ne_eqb given 0 (λ e. omega arith)) ∙ both-off-second _ _ (ne_eqb given (length a.points) (λ e. omega arith))

    over-given : most_points < length a.courses → Same
    unfolding rules_in
    over-given h =
        rw points-counted
        (rules-courses _ _ (counted (length a.courses)) (length a.points) _ _ least most (some-only _ (omega arith))
        ∙ sym (rules-courses _ _ (length a.courses) (length a.points) _ _ least most (some-only _ h)))

    pub all_held : length a.courses ≤ most_points → held_plan serial a ≡ plan_of serial a.radius a.points a.courses
    all_held h =
        let e : counted (length a.courses) ≡ length a.courses = omega arith in
        rw (e, points-counted)

    stored : length a.courses ≤ most_points → Same
    unfolding rules_in
    stored h =
        let e : counted (length a.courses) ≡ length a.courses = omega arith in
        rw (e, points-counted) (rules-padded _ _ _ _ a.points a.courses most h)

  pub rules-held : Same
  rules-held =
      by_bool (ltb (length a.points) fewest_points) (λ t. few (ltb-true _ _ t))
      (λ u. by_bool (ltb most_points (length a.points)) (λ t. many (ltb-true _ _ t))
      (λ w. by_bool (ltb most_points (length a.courses)) (λ t. over-given (ltb-false _ _ u) (ltb-false _ _ w) (ltb-true _ _ t))
      (λ x. stored (ltb-false _ _ u) (ltb-false _ _ w) (ltb-false _ _ x))))

-- the plan as `finish` finds it in lent numbers
module _ (serial : ℕ) (g : Gathered) (h : Head) (fits : h ≡ head_from serial g) (numbers : List ℤ) (a : Parts) (e : g ≡ answer_of a)
    (held : numbers ≡ numbers_in a) where
  head-made : h ≡ (held_plan serial a).head
  head-made = fits ∙ ap (head_from serial) e

  made : planned_in h numbers ≡ held_plan serial a
  made = (λ i. planned_in (head-made i) (held i)) ∙ planned-back (held_plan serial a) (held-filled serial a)

  pub made-bounded : InRange a → Bounded (planned_in h numbers)
  made-bounded r = subst Bounded (sym made) (held-bounded serial a r)

  module _ (found : Result (Unit {0}) Refusal) (k : found ≡ passed_of (rules_of (planned_in h numbers) g.given)) where
    judged : found ≡ passed_of (rules_in a)
    judged = k ∙ (λ i. passed_of (rules_of (made i) (e i).given)) ∙ ap passed_of (rules-held serial a)

    pub finish-refused : (x : Refusal) → found ≡ Err x → finish_of serial a ≡ refused x.number x.place
    unfolding finish_of
    finish-refused x n = then-stops (rules_in a) _ _ _ (passed-refused (rules_in a) x (sym judged ∙ n))

    made-plan : (u : Unit {0}) → found ≡ Ok u → (rules_in a ≡ good done) × (held_plan serial a ≡ plan_of serial a.radius a.points a.courses)
    unfolding rules_in
    made-plan u z =
        let o = passed-is-good (rules_in a) u (sym judged ∙ z) in
        let p = rules-passed _ _ _ _ _ _ o in
        (good-is (rules_in a) o, all_held serial a p.least p.most (given-most _ _ _ p.most p.courses))

    pub finish-good : (u : Unit {0}) → found ≡ Ok u → ◌≡◌ {A = Result Head Refusal} (Ok h) (head_in (finish_of serial a))
    unfolding finish_of head_in
    finish-good u z =
        let m = made-plan u z in
        ap (λ (q : Head). Ok q) (head-made ∙ ap (λ (p : Plan). p.head) m.1) ∙ ap head_in (sym (then-good (rules_in a) done _ m.0))

-- ---- the head alone: which load it is of
pub failed-head : (n : ℕ) (x : Refusal) → x ≡ refusal_of (check false n (good done)) → (o : Outcome State) → o ≡ refused n 0
    → ◌≡◌ {A = Result Head Refusal} (Err x) (head_in o)
unfolding refusal_of check head_in
failed-head n x k o h = rw (k, h) refl

-- an error that is handed on is the same
pub handed_on : {A E : Type 0} (r : Result A E) (x : E) → IsErrAnd r (λ e. e ≡ x) → r ≡ Err x
handed_on (Ok a) x h = absurd h
handed_on (Err e) x h = ap (λ (y : _). Err y) h

pub head-refused : (o : Outcome State) (e : Refusal) → o ≡ refused e.number e.place → ◌≡◌ {A = Result Head Refusal} (Err e) (head_in o)
unfolding head_in
head-refused o e h = rw h refl

pub refused-head : (o : Outcome State) (e : Refusal) → head_in o ≡ Err e → o ≡ refused e.number e.place
unfolding head_in
refused-head (good s) e h = cc
refused-head (refused n p) e h = let k : record { number = n; place = p } ≡ e = cc in ap (λ (x : Refusal). refused x.number x.place) k

pub good-head : (o : Outcome State) (h : Head) → head_in o ≡ Ok h → (s : State) × ((o ≡ good s) × (h ≡ s.plan.head))
unfolding head_in
good-head (good s) h e = (s, (refl, let k : s.plan.head ≡ h = cc in sym k))
good-head (refused n p) h e = cc

-- ---- what `load` gets from the records
module _ (r : ℕ) (f : List ℕ) (v : ℕ) where
  pub record Gives (g : Gathered) : Type 0 where
    pub parts : Parts
    pub ranged : InRange parts
    pub held : g ≡ answer_of parts
    pub found : gather_from r v f header_length no_parts ≡ good parts
    pub are : parts_of r f ≡ good parts

  module _ (ev : v ≡ version_of f) where
    parts_is : gather_from r v f header_length no_parts ≡ parts_of r f
    unfolding gather_from parts_of records_of
    parts_is = rw ev

    pub gather-stops : (e : Refusal) → gathered_of (gather_from r v f header_length no_parts) ≡ Err e → parts_of r f ≡ refused e.number e.place
    gather-stops e h = sym parts_is ∙ gathered-refused _ e h

    pub gather-gives : (g : Gathered) → gathered_of (gather_from r v f header_length no_parts) ≡ Ok g → Gives g
    unfolding gather_from
    gather-gives g h =
        let x = gathered-good _ g h in
        record {
          parts = x.0;
          ranged = gather-ranged r v (walk (drop header_length f)) header_length no_parts x.0 none-ranged x.1.0;
          held = x.1.1;
          found = x.1.0;
          are = sym parts_is ∙ x.1.0;
        }

-- ---- the state that is loaded is the start of a plan of lists
pub finish-makes : (serial : ℕ) (a : Parts) (s : State) → finish_of serial a ≡ good s → s ≡ start_of (plan_of serial a.radius a.points a.courses)
unfolding finish_of
finish-makes serial a s e =
    let m = then-means (rules_in a) (λ (_ : Done). good (start_of (plan_of serial a.radius a.points a.courses))) s e in
    let z = m.1.1 in
    cc

-- ---- what the answer of a load says of it
module _ (r : ℕ) (f : List ℕ) (x : Loaded) (e : x ≡ loaded_of (load_of r f)) where
  refusal-by : (o : Outcome State) → (loaded_of o).refusal ≡ (refusal_of o).number
  unfolding loaded_of refusal_of
  refusal-by (good s) = refl
  refusal-by (refused m p) = refl

  pub loads-when : is_good (load_of r f) ≡ eqb x.refusal 0
  loads-when =
      load-proper r f ∙ ap (λ (m : ℕ). eqb m 0) (sym (refusal-by (load_of r f)) ∙ ap (λ (y : Loaded). y.refusal) (sym e))

  good-by : (o : Outcome State) → is_good o ≡ true → o ≡ good (loaded_of o).state
  unfolding loaded_of is_good
  good-by (good s) h = refl
  good-by (refused m p) h = clash false h refl

  refused-by : (o : Outcome State) → is_good o ≡ false → (o ≡ refused (loaded_of o).refusal (loaded_of o).place) × ((loaded_of o).state ≡ empty_state)
  unfolding loaded_of is_good
  refused-by (good s) h = clash true refl h
  refused-by (refused m p) h = (refl, refl)

  pub loaded-good : x.refusal ≡ 0 → load_of r f ≡ good x.state
  loaded-good h = good-by (load_of r f) (loads-when ∙ eq-eqb _ _ h) ∙ ap (λ (y : Loaded). good y.state) (sym e)

  pub loaded-refused : (x.refusal ≡ 0 → ⊥) → (load_of r f ≡ refused x.refusal x.place) × (x.state ≡ empty_state)
  loaded-refused h =
      let k = refused-by (load_of r f) (loads-when ∙ ne_eqb _ _ h) in
      (k.0 ∙ (λ i. refused (sym e i).refusal (sym e i).place), ap (λ (y : Loaded). y.state) e ∙ k.1)

-- ---- and its arrays have all their places, as those of the empty state have
empty-filled : Filled empty_plan
empty-filled = record { north = refl; east = refl; down = refl; course = refl }

pub load-filled : (r : ℕ) (f : List ℕ) (s : State) → load_of r f ≡ good s → Filled s.plan
load-filled r f s h =
    let x = load-steps r f s h in
    let a = x.settled in
    subst (λ (t : State). Filled t.plan) (sym (finish-makes (serial_of f) a s x.finishes))
    (padded-filled (plan_of (serial_of f) a.radius a.points a.courses) a.points a.courses refl refl refl refl)

pub loaded-filled : (r : ℕ) (f : List ℕ) (o : Outcome State) → load_of r f ≡ o → Filled (loaded_of o).state.plan
unfolding loaded_of
loaded-filled r f (good s) e = load-filled r f s e
loaded-filled r f (refused n p) e = empty-filled

-- ---- a load into lent numbers
module _ (r : ℕ) (f : List ℕ) where
  pub numbers-refused : {numbers : List ℤ} (n p : ℕ) → load_of r f ≡ refused n p → (s : State) → load_of r f ≡ good s → numbers ≡ numbers_of s.plan
  numbers-refused n p e s g = never-good (sym e ∙ g)

  pub numbers-finished : {numbers : List ℤ} (serial : ℕ) (a : Parts) → load_of r f ≡ finish_of serial a → numbers ≡ numbers_in a → (s : State) → load_of r f ≡ good s → numbers ≡ numbers_of s.plan
  numbers-finished serial a e n s g = n ∙ ap (λ (t : State). numbers_of t.plan) (sym (finish-makes serial a s (sym e ∙ g)))

  -- what is loaded is at its start
  pub entered-good : (s : State) → load_of r f ≡ good s → {h : Head} {q : Progress} → h ≡ s.plan.head → q ≡ first_progress
      → record { refusal = 0; place = 0; head = h; progress = q } ≡ entered_of (loaded_of (load_of r f))
  unfolding loaded_of
  entered-good s g k l =
      let x = load-steps r f s g in
      let p : first_progress ≡ s.progress = ap (λ (t : State). t.progress) (sym (finish-makes (serial_of f) x.settled s x.finishes)) in
      (λ i. record { refusal = 0; place = 0; head = k i; progress = (l ∙ p) i }) ∙ ap (λ (o : Outcome State). entered_of (loaded_of o)) (sym g)

  pub entered-refused : (e : Refusal) → load_of r f ≡ refused e.number e.place → entered_of (refused_of e) ≡ entered_of (loaded_of (load_of r f))
  unfolding loaded_of
  entered-refused e g = ap (λ (o : Outcome State). entered_of (loaded_of o)) (sym g)

  pub numbers-good : {numbers : List ℤ} (s : State) → load_of r f ≡ good s → numbers ≡ numbers_of s.plan → numbers ≡ numbers_of (loaded_of (load_of r f)).state.plan
  unfolding loaded_of
  numbers-good s g n = n ∙ ap (λ (o : Outcome State). numbers_of (loaded_of o).state.plan) (sym g)

  -- zeros are the numbers of the empty state
  pub cleared : (n p : ℕ) → load_of r f ≡ refused n p → (old zeros : List ℤ) → zeros ≡ zeroed old → length zeros ≡ plan_numbers
      → zeros ≡ numbers_of (loaded_of (load_of r f)).state.plan
  unfolding loaded_of
  cleared n p g old zeros e l =
      e
      ∙ zeros_of old plan_numbers (sym (zeros-length old) ∙ ap length (sym e) ∙ l)
      ∙ ap (λ (o : Outcome State). numbers_of (loaded_of o).state.plan) (sym g)

-- ---- a state by value: its blocks, one by one
pub block-copied : (from : ℕ) (numbers old new : List ℤ) → from + most_points ≤ length numbers → length old ≡ most_points
    → new ≡ over (take (from + most_points - from) (drop from numbers)) old → new ≡ take most_points (drop from numbers)
block-copied from numbers old new l k e =
    let n : from + most_points - from ≡ most_points = omega arith in
    let p : length (take most_points (drop from numbers)) ≡ most_points
    = length-take-le most_points (drop from numbers) (simp length-drop (omega arith)) in
    let z : length old ≤ length (take most_points (drop from numbers)) = omega arith in
    e ∙ rw (n, drop_of_length-le old z) (append-nil (take most_points (drop from numbers)))

pub loaded-whole : (y : Loaded) → Filled y.state.plan → {x : Entered} → x ≡ entered_of y → {numbers : List ℤ} → numbers ≡ numbers_of y.state.plan
    → {ns es ds cs : List ℤ} → ns ≡ block 0 numbers → es ≡ block 1 numbers → ds ≡ block 2 numbers → cs ≡ block 3 numbers
    → record { refusal = x.refusal; place = x.place; state = record { plan = seen x.head ns es ds cs; progress = x.progress } } ≡ y
loaded-whole y f {x} e {numbers} n en ee ed ec =
    (λ i.
    record {
      refusal = (e i).refusal;
      place = (e i).place;
      state = record { plan = seen (e i).head (en i) (ee i) (ed i) (ec i); progress = (e i).progress };
    })
    ∙ (λ i. record { refusal = y.refusal; place = y.place; state = record { plan = planned_in y.state.plan.head (n i); progress = y.state.progress } })
    ∙ (λ i. record { refusal = y.refusal; place = y.place; state = record { plan = planned-back y.state.plan f i; progress = y.state.progress } })
