-- Clause 7.14, its part on the plan: serial, limits, rules, and zeros where nothing is used. Assumes nothing.
use Rattle.std.specs.Prelude.{◌≡◌, Bool, true, not, List, ℕ, ◌-◌, ◌+◌, ◌≤◌, ◌<◌, eqb, leb, ltb, ℤ, pos, nat_abs, length}
use Rattle.conditions.specs.Choose.{choose}
use Rattle.conditions.specs.Both.{both}
use Rattle.refusals.specs.Outcome.{Outcome, is_good}
use Rattle.refusals.specs.Sweep.{Done, every}
use Rattle.course.specs.Bearing.{bearing_of}
use Rattle.plane.specs.declared.Point.{Point}
use Rattle.plane.specs.Area.{InArea}
use Rattle.plane.specs.Level.{level_leg_of, square_of}
use Rattle.fillets.specs.Corners.{corner_turn, easy_turn}
use Rattle.dubins.specs.Choice.{has_path_of}
use Rattle.plan.specs.declared.LevelLeg.{LevelLeg}
use Rattle.plan.specs.declared.Mode.{Mode}
use Rattle.plan.specs.declared.Mode.TheVariants.{Lines, Fillets, Dubins}
use Rattle.plan.specs.declared.Plan.{Plan}
use Rattle.plan.specs.Limits.{fewest_points, most_points, most_radius, most_turn, full_circle, number_fits, in_area_of, zero_of, radius_fits}
use Rattle.plan.specs.Places.{number_at, place_at, plan_point, plan_course}
use Rattle.plan.specs.Rules.{ends_at, rules_on}

-- how many points of a plan have a course
unfoldable pub given_of : Mode → ℕ → ℕ
given_of Lines n = 0
given_of Fillets n = 0
given_of Dubins n = n

-- a point in the area, or zero where the place is unused
unfoldable pub point_fits : Bool → Point → Bool
point_fits used p = choose used (in_area_of p) (zero_of p)

-- a course, or zero where the point has none
unfoldable pub course_fits : Bool → ℤ → Bool
course_fits used χ = number_fits used 0 (full_circle - 1) χ

-- the point and the course at a place
unfoldable pub values_fit : Bool → Point → Bool → ℤ → Bool
values_fit used p aimed χ = both (point_fits used p) (course_fits aimed χ)

unfoldable pub place_fits : Plan → ℕ → Bool
place_fits p i = values_fit (ltb i p.head.count) (plan_point p i) (ltb i (given_of p.head.mode p.head.count)) (number_at p.courses i)

unfoldable pub places_fit : Plan → Bool
places_fit p = every (place_fits p) (most_points - 0) 0

abbrev pub rules_of : Plan → ℕ → Outcome Done
rules_of p given = rules_on p.head.mode p.head.radius given p.head.count (plan_point p) (plan_course p)

unfoldable pub stands_of : Plan → Bool
stands_of p =
    both (not (eqb p.head.serial 0))
    (both (leb p.head.count most_points)
    (both (radius_fits p.head.mode p.head.radius)
    (both (places_fit p)
    (is_good (rules_of p (given_of p.head.mode p.head.count))))))

-- ---- what the functions ask of a plan and tell of it. The places of a plan are those below most_points.
abbrev pub Ranged : Plan → Type 0
Ranged p = (i : ℕ) → i < most_points → InArea (plan_point p i)

-- a number that is a course
pub record IsCourse (χ : ℤ) : Type 0 where
  pub sign : χ ≡ pos (nat_abs χ)
  pub low : nat_abs χ < full_circle

abbrev pub Aimed : Plan → Type 0
Aimed p = (i : ℕ) → i < most_points → IsCourse (number_at p.courses i)

-- 11 has passed a plan of fillets
abbrev pub Turns : Plan → Type 0
Turns p = (i : ℕ) → 1 ≤ i → i + 1 < p.head.count → corner_turn (plan_point p (i - 1)) (plan_point p i) (plan_point p (i + 1)) ≤ most_turn

-- before the rules are asked
pub record Bounded (p : Plan) : Type 0 where
  pub ranged : Ranged p
  pub radius : p.head.radius ≤ most_radius
  pub aimed : Aimed p

-- ---- of lent numbers: those of a place are there
pub record There (norths easts downs : List ℤ) (i : ℕ) : Type 0 where
  pub north : i < length norths
  pub east : i < length easts
  pub down : i < length downs

-- and its point lies in the area
pub record Placed (norths easts downs : List ℤ) (i : ℕ) : Type 0 where
  pub there : There norths easts downs i
  pub area : InArea (place_at norths easts downs i)

-- what the leg from a to b is in north and east
pub record IsLevelLeg (a b : Point) (leg : LevelLeg) : Type 0 where
  pub bearing : leg.bearing ≡ bearing_of (level_leg_of a b)
  pub below : leg.bearing < full_circle
  pub squared : leg.squared ≡ square_of (level_leg_of a b)
  pub most : leg.squared ≤ 8000000000000

pub record Aiming (courses : List ℤ) (i : ℕ) : Type 0 where
  pub there : i < length courses
  pub course : IsCourse (number_at courses i)

-- once 8 has passed; for proofs alone
pub record Counted (norths easts downs : List ℤ) (n : ℕ) : Type 0 where
  pub placed : (i : ℕ) → i < n → Placed norths easts downs i
  pub least : fewest_points ≤ n

-- the leg to place i has at least this squared length; for proofs alone
abbrev pub LongAt : ℕ → (ℕ → Point) → ℕ → Type 0
LongAt least at i = least ≤ square_of (level_leg_of (at (i - 1)) (at i))

-- and the turn there is easy: what products tell of a fillet plan without a bearing; for proofs alone
pub record EasyAt (least : ℕ) (at : ℕ → Point) (i : ℕ) : Type 0 where
  pub long : LongAt least at i
  pub turn : corner_turn (at (i - 1)) (at i) (at (i + 1)) ≤ easy_turn

-- what the rules may rely on; for proofs alone
pub record Fit (R n : ℕ) (norths easts downs courses : List ℤ) : Type 0 where
  pub counted : Counted norths easts downs n
  pub radius : R ≤ most_radius
  pub aimed : (i : ℕ) → i < n → Aiming courses i

-- fillets: each corner's turn; Dubins: each course, and a case for each leg
abbrev pub ByMode : Mode → Plan → Type 0
ByMode Lines p = Unit {0}
ByMode Fillets p = (p.head.radius ≤ most_radius) × Turns p
ByMode Dubins p =
    (p.head.radius ≤ most_radius)
    × (Aimed p × ((i : ℕ) → 1 ≤ i → i < p.head.count → has_path_of (ends_at p.head.radius (plan_point p) (plan_course p) (i - 1) i) ≡ true))

-- what a plan that stands gives whoever flies it
pub record Stands (p : Plan) : Type 0 where
  pub least : fewest_points ≤ p.head.count
  pub most : p.head.count ≤ most_points
  pub ranged : Ranged p
  pub mode : ByMode p.head.mode p
