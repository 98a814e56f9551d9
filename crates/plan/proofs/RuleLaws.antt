-- Refusals 8 to 12 and 17: which one stands, that none has the number 0, and what a plan that passes says of its places. Assumes nothing.
use mathlib.Core.Path.{◌≡◌, refl, ap, ◌∙◌}
use mathlib.Core.Bool.{Bool, true, false}
use Prim.Native.Nat.{ℕ, ◌+◌, ◌-◌, ◌≤◌, ◌<◌}
use native.Mathlib.Omega.{arith}
use lib.Dec.{eqb, leb, ltb}
use borrow.Author.Tests.{ltb-false, leb-true, le-leb, lt-leb}
use Rattle.conditions.specs.Choose.{choose}
use Rattle.conditions.proofs.Bools.{clash}
use Rattle.refusals.specs.Numbers.{point_count, course_count}
use Rattle.refusals.specs.Outcome.{Outcome, good, refused, check, and_then, refusal_of, is_good}
use Rattle.refusals.specs.Sweep.{Done, done}
use Rattle.refusals.proofs.OutcomeLaws.{Proper, check-true, check-false, check-first, check-rest, then-good, then-stops, good-first, proper-check, proper-then}
use Rattle.refusals.proofs.SweepLaws.{sweep-means, sweep-zeros, good-is, proper-sweep}
use Rattle.plane.specs.declared.Point.{Point}
use Rattle.plane.specs.Level.{level_leg_of, vector_length}
use Rattle.fillets.specs.Corners.{corner_turn}
use Rattle.dubins.specs.Choice.{has_path_of, far_apart}
use Rattle.plan.specs.declared.Mode.{Mode}
use Rattle.plan.specs.declared.Mode.TheVariants.{Lines, Fillets, Dubins}
use Rattle.plan.specs.Limits.{fewest_points, most_points, most_turn}
use Rattle.plan.specs.Rules.{courses_fit, corner_number, tangent_at, tangent_number, ends_number, leg_number, ends_at, pair_at, corner_at, pairs_of, corners_of, legs_of, geometry_on, rules_on}

-- ---- corners and legs that pass
turn_low : (t : ℕ) (b : Bool) → ltb most_turn t ≡ b → choose {A = ℕ} b 11 0 ≡ 0 → t ≤ most_turn
unfolding choose
turn_low t true e h = absurd (omega arith)
turn_low t false e h = ltb-false most_turn t e

path-has : (a b : Bool) → choose {A = ℕ} a (choose b 0 17) 12 ≡ 0 → b ≡ true
unfolding choose
path-has true true h = refl
path-has true false h = absurd (omega arith)
path-has false b h = absurd (omega arith)

pub corner-turns : (n : ℕ) (at : ℕ → Point) → is_good (corners_of Fillets n at) ≡ true
    → (i : ℕ) → 1 ≤ i → i + 1 < n → corner_turn (at (i - 1)) (at i) (at (i + 1)) ≤ most_turn
unfolding corners_of corner_number
corner-turns n at h i l m =
    turn_low (corner_turn (at (i - 1)) (at i) (at (i + 1))) (ltb most_turn (corner_turn (at (i - 1)) (at i) (at (i + 1)))) refl
    (sweep-means (corner_at Fillets at) (n - 1 - 1) 1 h i l (omega arith))

pub leg-paths : (R n : ℕ) (at : ℕ → Point) (course : ℕ → ℕ) → is_good (legs_of Dubins R n at course) ≡ true
    → (i : ℕ) → 1 ≤ i → i < n → has_path_of (ends_at R at course (i - 1) i) ≡ true
unfolding legs_of leg_number ends_number
leg-paths R n at course h i l m =
    path-has (far_apart (at (i - 1)) (at i) R) (has_path_of (ends_at R at course (i - 1) i))
    (sweep-means (leg_number Dubins R n at course) (n - 1) 1 h i l (omega arith))

length-fits : (t l : ℕ) (b : Bool) → leb t l ≡ b → choose {A = ℕ} b 0 12 ≡ 0 → t ≤ l
unfolding choose
length-fits t l true e h = leb-true t l e
length-fits t l false e h = absurd (omega arith)

pub leg-lengths : (R n : ℕ) (at : ℕ → Point) (course : ℕ → ℕ) → is_good (legs_of Fillets R n at course) ≡ true
    → (i : ℕ) → 1 ≤ i → i < n → tangent_at R n at (i - 1) + tangent_at R n at i ≤ vector_length (level_leg_of (at (i - 1)) (at i))
unfolding legs_of leg_number tangent_number
leg-lengths R n at course h i l m =
    length-fits _ _ (leb (tangent_at R n at (i - 1) + tangent_at R n at i) (vector_length (level_leg_of (at (i - 1)) (at i)))) refl
    (sweep-means (leg_number Fillets R n at course) (n - 1) 1 h i l (omega arith))

-- lines have no rule on legs, and Dubins plans none on corners
line-legs : (R n : ℕ) (at : ℕ → Point) (course : ℕ → ℕ) → legs_of Lines R n at course ≡ good done
unfolding legs_of leg_number
line-legs R n at course = sweep-zeros (leg_number Lines R n at course) (λ j. refl) (n - 1) 1

dubins-corners : (n : ℕ) (at : ℕ → Point) → corners_of Dubins n at ≡ good done
unfolding corners_of corner_number
dubins-corners n at = sweep-zeros (corner_at Dubins at) (λ j. refl) (n - 1 - 1) 1

-- ---- pairs, corners, legs
then-rest : (o : Outcome Done) (g : Done → Outcome Done) → is_good (and_then o g) ≡ true → is_good (g done) ≡ true
unfolding is_good and_then
then-rest (good done) g h = h
then-rest (refused n p) g h = clash false h refl

then-bad : (o : Outcome Done) (g : Done → Outcome Done) → is_good o ≡ false → and_then o g ≡ o
unfolding is_good and_then
then-bad (good d) g h = clash true refl h
then-bad (refused n p) g h = refl

module _ (mode : Mode) (R n : ℕ) (at : ℕ → Point) (course : ℕ → ℕ) where
  pub geometry-pairs : is_good (pairs_of n at) ≡ false → geometry_on mode R n at course ≡ pairs_of n at
  unfolding geometry_on
  geometry-pairs h = then-bad (pairs_of n at) _ h

  pub geometry-rest : is_good (pairs_of n at) ≡ true
      → geometry_on mode R n at course ≡ and_then (corners_of mode n at) (λ (_ : Done). legs_of mode R n at course)
  unfolding geometry_on
  geometry-rest h = then-good _ done _ (good-is (pairs_of n at) h)

  -- a corner is refused, or the legs are asked
  pub corners-refuse : (k p : ℕ) → corners_of mode n at ≡ refused k p
      → and_then (corners_of mode n at) (λ (_ : Done). legs_of mode R n at course) ≡ refused k p
  corners-refuse k p e = then-stops _ k p _ e

  pub corners-pass : corners_of mode n at ≡ good done
      → and_then (corners_of mode n at) (λ (_ : Done). legs_of mode R n at course) ≡ legs_of mode R n at course
  corners-pass e = then-good _ done _ e

  proper-geometry : Proper (geometry_on mode R n at course)
  unfolding geometry_on pairs_of corners_of legs_of
  proper-geometry =
      proper-then _ _ (proper-sweep (pair_at at) (n - 1) 1)
      (λ (_ : Done). proper-then _ _ (proper-sweep (corner_at mode at) (n - 1 - 1) 1) (λ (_ : Done). proper-sweep (leg_number mode R n at course) (n - 1) 1))

-- by the mode: of lines the corners alone, of a Dubins plan the legs alone
then-done : (o q : Outcome Done) → q ≡ good done → and_then o (λ (_ : Done). q) ≡ o
unfolding and_then
then-done (good done) q h = h
then-done (refused n p) q h = refl

module _ (R n : ℕ) (at : ℕ → Point) (course : ℕ → ℕ) where
  pub line-rest : and_then (corners_of Lines n at) (λ (_ : Done). legs_of Lines R n at course) ≡ corners_of Lines n at
  line-rest = then-done (corners_of Lines n at) (legs_of Lines R n at course) (line-legs R n at course)

  pub dubins-rest : and_then (corners_of Dubins n at) (λ (_ : Done). legs_of Dubins R n at course) ≡ legs_of Dubins R n at course
  dubins-rest = then-good _ done _ (dubins-corners n at)

-- the legs of fillets have no courses
pub fillet-rest : (R n : ℕ) (at : ℕ → Point) (course other : ℕ → ℕ)
    → and_then (corners_of Fillets n at) (λ (_ : Done). legs_of Fillets R n at course) ≡ and_then (corners_of Fillets n at) (λ (_ : Done). legs_of Fillets R n at other)
unfolding legs_of leg_number
fillet-rest R n at course other = refl

-- ---- 8 and 9 before them
pub record Passed (mode : Mode) (R given n : ℕ) (at : ℕ → Point) (course : ℕ → ℕ) : Type 0 where
  pub least : fewest_points ≤ n
  pub most : n ≤ most_points
  pub courses : courses_fit R given n ≡ true
  pub pairs : is_good (pairs_of n at) ≡ true
  pub corners : is_good (corners_of mode n at) ≡ true
  pub legs : is_good (legs_of mode R n at course) ≡ true

module _ (mode : Mode) (R given n : ℕ) (at : ℕ → Point) (course : ℕ → ℕ) where
  pub rules-few : n < fewest_points → rules_on mode R given n at course ≡ refused point_count 0
  unfolding rules_on
  rules-few h = check-false _ point_count _ (lt-leb fewest_points n h)

  pub rules-many : fewest_points ≤ n → most_points < n → rules_on mode R given n at course ≡ refused point_count 0
  unfolding rules_on
  rules-many h k = check-true _ point_count _ (le-leb fewest_points n h) ∙ check-false _ point_count _ (lt-leb n most_points k)

  counted : fewest_points ≤ n → n ≤ most_points → rules_on mode R given n at course ≡ check (courses_fit R given n) 9 (geometry_on mode R n at course)
  unfolding rules_on
  counted h k = check-true _ point_count _ (le-leb fewest_points n h) ∙ check-true _ point_count _ (le-leb n most_points k)

  pub rules-courses : fewest_points ≤ n → n ≤ most_points → courses_fit R given n ≡ false → rules_on mode R given n at course ≡ refused course_count 0
  rules-courses h k f = counted h k ∙ check-false _ course_count _ f

  pub rules-geometry : fewest_points ≤ n → n ≤ most_points → courses_fit R given n ≡ true → rules_on mode R given n at course ≡ geometry_on mode R n at course
  rules-geometry h k t = counted h k ∙ check-true _ course_count _ t

  -- no refusal has the number 0
  pub rules-proper : Proper (rules_on mode R given n at course)
  unfolding rules_on
  rules-proper = proper-check _ point_count _ refl (proper-check _ point_count _ refl (proper-check _ course_count _ refl (proper-geometry mode R n at course)))

  pub rules-clean : (refusal_of (rules_on mode R given n at course)).number ≡ 0 → is_good (rules_on mode R given n at course) ≡ true
  rules-clean h = rules-proper ∙ ap (λ (k : ℕ). eqb k 0) h

  pub rules-passed : is_good (rules_on mode R given n at course) ≡ true → Passed mode R given n at course
  unfolding rules_on geometry_on
  rules-passed h =
      let a = check-rest _ point_count _ h in
      let b = check-rest _ point_count _ a in
      let g = check-rest _ course_count _ b in
      let k = then-rest _ _ g in
      record {
        least = leb-true fewest_points n (check-first _ point_count _ h);
        most = leb-true n most_points (check-first _ point_count _ a);
        courses = check-first _ course_count _ b;
        pairs = good-first _ _ g;
        corners = good-first _ _ k;
        legs = then-rest _ _ k;
      }
