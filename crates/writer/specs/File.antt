-- Clauses 3.2, 5.1, 15.12, 18.6: the file of a plan. Assumes nothing.
use Rattle.std.specs.Prelude.{List, [], ◌∷◌, ◌++◌, ℕ, zero, suc, ◌+◌, ◌≤◌, eqb, length}
use Rattle.conditions.specs.Choose.{choose}
use Rattle.plane.specs.declared.Point.{Point}
use Rattle.plan.specs.declared.Plan.{Plan}
use Rattle.plan.specs.Limits.{most_points}
use Rattle.plan.specs.Places.{plan_point, plan_course}
use Rattle.plan.specs.Stands.{given_of, Aimed}
use Rattle.plan.specs.Long.{Long}
use Rattle.records.specs.Numbers.{u16_bytes, u32_bytes}
use Rattle.records.specs.Walk.{Walked, end, more, flat}
use Rattle.records.specs.Kinds.{point_row, radius_row, course_row, point_bytes}

-- 3.2: the header before a record area
unfoldable pub with_header : ℕ → ℕ → List ℕ → List ℕ
with_header version serial area =
    (0x57 ∷ 0x50 ∷ 0x4C ∷ []) ++ (u16_bytes version ++ (u32_bytes serial ++ (u16_bytes (length area) ++ area)))

-- 5.1: a point, behind it its course where there is one, and the points after it
unfoldable pub point_records : List Point → List ℕ → Walked
point_records [] cs = end
point_records (p ∷ ps) [] = more point_row.kind (point_bytes p) (point_records ps [])
point_records (p ∷ ps) (c ∷ cs) = more point_row.kind (point_bytes p) (more course_row.kind (u16_bytes c) (point_records ps cs))

-- 5.1: in front of them the radius; 0 stands for none
unfoldable pub radius_record : ℕ → Walked → Walked
radius_record R rest = choose (eqb R 0) rest (more radius_row.kind (u16_bytes R) rest)

-- f at k places from i on
unfoldable pub listed : {A : Type 0} → (ℕ → A) → ℕ → ℕ → List A
listed f zero i = []
listed f (suc k) i = f i ∷ listed f k (i + 1)

-- the points of a plan, and its courses, which the first points have
abbrev pub points_of : Plan → List Point
points_of p = listed (plan_point p) p.head.count 0

abbrev pub courses_of : Plan → List ℕ
courses_of p = listed (plan_course p) (given_of p.head.mode p.head.count) 0

unfoldable pub plan_records : Plan → Walked
plan_records p = radius_record p.head.radius (point_records (points_of p) (courses_of p))

-- the file of a plan at a version
unfoldable pub file_of : ℕ → Plan → List ℕ
file_of version p = with_header version p.head.serial (flat (plan_records p))

-- ---- what the writer asks of a plan: its numbers are there, and its courses are courses
pub record Writable (p : Plan) : Type 0 where
  pub long : Long p.norths p.easts p.downs p.courses
  pub most : p.head.count ≤ most_points
  pub aimed : Aimed p
