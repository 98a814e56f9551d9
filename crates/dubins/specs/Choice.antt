-- Clauses 7.12, 7.17, 12.2 to 12.4, 12.7, 21.4: the shortest of a leg's cases, and the tests of refusals 12 and 17. Assumes nothing.
use Rattle.std.specs.Prelude.{◌≡◌, ◌↔◌, Bool, true, false, ◌||◌, ℕ, ◌*◌, ◌≤◌, ◌<◌, leb, Option, Some, None}
use Rattle.conditions.specs.Choose.{choose}
use Rattle.course.specs.Vectors.{plain}
use Rattle.plane.specs.declared.Point.{Point}
use Rattle.plane.specs.Area.{level_of}
use Rattle.plane.specs.Level.{minus, square_of}
use Rattle.dubins.specs.declared.Case.{Case}
use Rattle.dubins.specs.declared.Case.TheVariants.{Rsr, Rsl, Lsr, Lsl}
use Rattle.dubins.specs.declared.Ends.{Ends}
use Rattle.dubins.specs.declared.Path.{Path}
use Rattle.dubins.specs.Cases.{number_of, circles_of, case_exists, straight_of, straight_course, path_of}

-- one case, where it exists
unfoldable pub case_path : Ends → Case → Option Path
case_path ends case =
    let circles = circles_of ends case in
    let s = straight_of case ends.radius circles.v in
    let θ = straight_course case ends.radius s circles.v in
    choose (case_exists ends case) (Some (path_of ends case circles s θ)) None

-- 12.7: the cases in their order, so that of equal ones the first stays
unfoldable pub shorter_of : Option Path → Option Path → Option Path
shorter_of a None = a
shorter_of None (Some later) = Some later
shorter_of (Some earlier) (Some later) = choose (leb earlier.length later.length) (Some earlier) (Some later)

unfoldable pub shortest_of : Ends → Option Path
shortest_of ends = shorter_of (shorter_of (shorter_of (case_path ends Rsr) (case_path ends Rsl)) (case_path ends Lsr)) (case_path ends Lsl)

-- 21.4: its length; a leg of a sound plan has one
unfoldable pub found_length : Option Path → ℕ
found_length (Some path) = path.length
found_length None = 0

-- 7.17 refuses a leg that has none
unfoldable pub has_path_of : Ends → Bool
has_path_of ends = case_exists ends Rsr || case_exists ends Rsl || case_exists ends Lsr || case_exists ends Lsl

-- 7.12 refuses ends nearer than three radii
unfoldable pub far_apart : Point → Point → ℕ → Bool
far_apart a b R = leb (9 * R * R) (square_of (minus (level_of b) (level_of a)))

-- ---- what the functions promise beside their values

-- p is the path of its case, no case is shorter, and no earlier one is as short
pub record Wins (ends : Ends) (p : Path) : Type 0 where
  pub own : case_path ends p.case ≡ Some p
  pub shortest : (case : Case) (q : Path) → case_path ends case ≡ Some q → p.length ≤ q.length
  pub earliest : (case : Case) (q : Path) → number_of case < number_of p.case → case_path ends case ≡ Some q → p.length < q.length

abbrev pub IsShortest : Ends → Option Path → Type 0
IsShortest ends (Some p) = Wins ends p
IsShortest ends None = (case : Case) → case_path ends case ≡ None

-- r is the shortest, nothing else is, and it is there exactly where a case exists
pub record Chosen (ends : Ends) (r : Option Path) : Type 0 where
  pub holds : IsShortest ends r
  pub only : (f : Option Path) → IsShortest ends f → f ≡ r
  pub found : has_path_of ends ≡ true → (p : Path) × (r ≡ Some p)
  pub missing : has_path_of ends ≡ false → r ≡ None

-- 12.3: unless v is zero
abbrev pub OuterWhen : Ends → Case → Type 0
OuterWhen ends case = (case_exists ends case ≡ true) ↔ ((circles_of ends case).v ≡ plain 0 0 → ⊥)

-- 12.4: from two radii on
abbrev pub InnerWhen : Ends → Case → Type 0
InnerWhen ends case = (case_exists ends case ≡ true) ↔ (4 * ends.radius * ends.radius ≤ square_of (circles_of ends case).v)

-- when the cases of a leg exist; one does where its ends are three radii apart, and the radius is not 0
pub record Existence (ends : Ends) : Type 0 where
  pub rsr : OuterWhen ends Rsr
  pub rsl : InnerWhen ends Rsl
  pub lsr : InnerWhen ends Lsr
  pub lsl : OuterWhen ends Lsl
  pub far : 0 < ends.radius → far_apart ends.start ends.end ends.radius ≡ true → has_path_of ends ≡ true
