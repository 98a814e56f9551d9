-- Holds clauses 1.2 to 1.5, 4.10, 6.2, 7.8 to 7.12, 7.14, 7.17: what the limits and rules of a plan come to, in numbers: laws, and one list of
-- examples that the prover computes. A definition that is changed together with the code that it describes is refused here. Assumes nothing.
use Rattle.std.specs.Prelude.{◌≡◌, Bool, true, false, List, [], ◌∷◌, ℕ, ◌≤◌, ◌<◌, ℤ, pos, negsuc, length, set, replicate}
use Rattle.conditions.specs.All.{All}
use Rattle.refusals.specs.declared.Refusal.{Refusal}
use Rattle.refusals.specs.Outcome.{refusal_of}
use Rattle.plane.specs.declared.Point.{Point}
use Rattle.plane.specs.Samples.{point, ground}
use Rattle.fillets.specs.Corners.{corner_turn}
use Rattle.dubins.specs.declared.Ends.{Ends}
use Rattle.dubins.specs.Choice.{has_path_of, far_apart}
use Rattle.plan.specs.declared.Mode.{Mode}
use Rattle.plan.specs.declared.Mode.TheVariants.{Lines, Fillets}
use Rattle.plan.specs.declared.Plan.{Plan}
use Rattle.plan.specs.Limits.{fewest_points, most_points, most_level, most_down, least_radius, most_radius, full_circle, most_turn, in_area_of, arc_radius}
use Rattle.plan.specs.Places.{points_at, courses_at, seen}
use Rattle.plan.specs.Rules.{mode_of, corner_number, ends_number, rules_on}
use Rattle.plan.specs.Stands.{stands_of}
use Rattle.plan.specs.Loaded.{plan_of, Loadable}

-- ---- what an example says
pub data PlanExample : Type 0 where
  -- a limit is a number
  limit : ℕ → ℕ → PlanExample
  -- a radius, points and courses are refused with a number at a place, or pass with 0
  judged : ℕ → List Point → List ℕ → ℕ → ℕ → PlanExample
  -- whether a point lies in the area
  inside : Point → Bool → PlanExample
  -- whether arcs of a radius are flown
  arcs : ℕ → Bool → PlanExample
  -- whether a plan stands
  stands : Plan → Bool → PlanExample

abbrev pub PlanHolds : PlanExample → Type 0
PlanHolds (limit named number) = named ≡ number
PlanHolds (judged R ps cs number place) =
    ◌≡◌ {A = Refusal} (refusal_of (rules_on (mode_of R (length cs)) R (length cs) (length ps) (points_at ps) (courses_at cs))) (record { number = number; place = place })
PlanHolds (inside p t) = in_area_of p ≡ t
PlanHolds (arcs R t) = arc_radius R ≡ t
PlanHolds (stands p t) = stands_of p ≡ t

-- ---- points of examples: a corner of section 19; out and back
abbrev pub corner : List Point
corner = ground 0 0 ∷ ground 1000 0 ∷ ground 1000 1000 ∷ []

abbrev pub back : List Point
back = ground 0 0 ∷ ground 1000 0 ∷ ground 500 0 ∷ []

-- the plan of that corner with another serial, mode, radius, norths or courses
abbrev pub corner_plan : ℕ → Mode → ℕ → (List ℤ → List ℤ) → (List ℤ → List ℤ) → Plan
corner_plan serial mode R norths courses =
    let p = plan_of 7 0 corner [] in
    seen (record { serial = serial; mode = mode; radius = R; count = 3 }) (norths p.norths) p.easts p.downs (courses p.courses)

abbrev pub same : List ℤ → List ℤ
same numbers = numbers

-- with a 1 at a place, from 0
abbrev pub one_put : ℕ → List ℤ → List ℤ
one_put i numbers = set numbers i (pos 1)

-- negsuc n is −(n + 1)
abbrev pub plan_examples : List PlanExample
plan_examples =
    -- the limits of section 1, the number of courses, and the sharpest turn of 7.11
    limit fewest_points 3
    ∷ limit most_points 64
    ∷ limit most_level 500000
    ∷ limit most_down 100000
    ∷ limit least_radius 50
    ∷ limit most_radius 10000
    ∷ limit full_circle 4096
    ∷ limit most_turn 1792
    -- 8, and 8 before 9
    ∷ judged 0 (ground 0 0 ∷ ground 1000 0 ∷ []) [] 8 0
    ∷ judged 0 (ground 0 0 ∷ ground 1000 0 ∷ []) (0 ∷ []) 8 0
    ∷ judged 0 (replicate 65 (ground 0 0)) (0 ∷ []) 8 0
    -- 9: a course without a radius, courses at some points only; and 9 before 10
    ∷ judged 0 corner (0 ∷ 0 ∷ 0 ∷ []) 9 0
    ∷ judged 100 corner (0 ∷ 0 ∷ []) 9 0
    ∷ judged 0 (ground 0 0 ∷ ground 0 0 ∷ ground 1000 0 ∷ []) (0 ∷ []) 9 0
    -- 10 at the later point, whatever its height; at the lower of two places; and 10 before 11
    ∷ judged 0 (ground 0 0 ∷ point (pos 0) (pos 0) (pos 9) ∷ ground 1000 0 ∷ []) [] 10 2
    ∷ judged 0 (ground 0 0 ∷ ground 1000 0 ∷ ground 1000 0 ∷ ground 1000 0 ∷ []) [] 10 3
    ∷ judged 0 (ground 0 0 ∷ ground 1000 0 ∷ ground 500 0 ∷ ground 500 0 ∷ []) [] 10 4
    -- points that are equal in one of north and east pass
    ∷ judged 0 corner [] 0 0
    -- 11 of lines at the corner, and only where the legs are opposite in three dimensions
    ∷ judged 0 back [] 11 2
    ∷ judged 0 (ground 0 0 ∷ point (pos 1000) (pos 0) (pos 9) ∷ ground 500 0 ∷ []) [] 0 0
    -- 12 of a Dubins leg at its end point, under three radii; a turn back is none of its refusals
    ∷ judged 100 (ground 0 0 ∷ ground 0 299 ∷ ground 0 600 ∷ []) (0 ∷ 0 ∷ 0 ∷ []) 12 2
    ∷ judged 100 (ground 0 0 ∷ ground 0 300 ∷ ground 0 0 ∷ []) (0 ∷ 0 ∷ 0 ∷ []) 0 0
    -- 11 of fillets, before a 12 at a lower place
    ∷ judged 1000 (ground 0 0 ∷ ground 0 100 ∷ ground 1000 100 ∷ ground 500 100 ∷ []) [] 11 3
    -- 7.12: the corner of section 19; tangent lengths of two corners together; and the lower of two places
    ∷ judged 1000 corner [] 0 0
    ∷ judged 1001 corner [] 12 2
    ∷ judged 600 (ground 0 0 ∷ ground 1000 0 ∷ ground 1000 1000 ∷ ground 2000 1000 ∷ []) [] 12 3
    -- the area, and the radius of arcs
    ∷ inside (point (pos 500000) (negsuc 499999) (pos 100000)) true
    ∷ inside (point (negsuc 499999) (pos 500000) (negsuc 99999)) true
    ∷ inside (point (pos 500001) (pos 0) (pos 0)) false
    ∷ inside (point (negsuc 500000) (pos 0) (pos 0)) false
    ∷ inside (point (pos 0) (pos 500001) (pos 0)) false
    ∷ inside (point (pos 0) (negsuc 500000) (pos 0)) false
    ∷ inside (point (pos 0) (pos 0) (pos 100001)) false
    ∷ inside (point (pos 0) (pos 0) (negsuc 100000)) false
    ∷ arcs 49 false
    ∷ arcs 50 true
    ∷ arcs 10000 true
    ∷ arcs 10001 false
    -- 14: a plan that stands, and with serial 0, a radius, a mode that its radius is not, an unused point, an unused course, a broken rule
    ∷ stands (corner_plan 7 Lines 0 same same) true
    ∷ stands (corner_plan 0 Lines 0 same same) false
    ∷ stands (corner_plan 7 Lines 100 same same) false
    ∷ stands (corner_plan 7 Fillets 0 same same) false
    ∷ stands (corner_plan 7 Lines 0 (one_put 3) same) false
    ∷ stands (corner_plan 7 Lines 0 same (one_put 0)) false
    ∷ stands (plan_of 7 0 back []) false
    ∷ stands (plan_of 7 100 (ground 0 0 ∷ ground 0 300 ∷ ground 0 0 ∷ []) (0 ∷ 4095 ∷ 0 ∷ [])) true
    ∷ stands (plan_of 7 100 (ground 0 0 ∷ ground 0 300 ∷ ground 0 0 ∷ []) (0 ∷ 4096 ∷ 0 ∷ [])) false
    ∷ []

pub record PlanFacts : Type 0 where
  -- 11 of fillets
  pub sharp : (a b c : Point) → 1792 < corner_turn a b c → corner_number Fillets a b c ≡ 11
  pub blunt : (a b c : Point) → corner_turn a b c ≤ 1792 → corner_number Fillets a b c ≡ 0
  -- 6.2: 12 comes before 17
  pub close : (ends : Ends) → far_apart ends.start ends.end ends.radius ≡ false → ends_number ends ≡ 12
  pub caseless : (ends : Ends) → far_apart ends.start ends.end ends.radius ≡ true → has_path_of ends ≡ false → ends_number ends ≡ 17
  -- the plan of what a file gives stands, once the rules have passed
  pub loaded : (serial R : ℕ) (ps : List Point) (cs : List ℕ) → Loadable serial R ps cs → stands_of (plan_of serial R ps cs) ≡ true
  pub each : All PlanHolds plan_examples
