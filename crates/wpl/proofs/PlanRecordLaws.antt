-- The records of a plan: they fill their area, they are short enough for it, and every reader of a version that can carry them gathers the
-- plan's radius, points and courses from them. Assumes nothing.
use mathlib.Core.Path.{◌≡◌, refl, ap, ◌∙◌}
use mathlib.Core.Bool.{Bool, true}
use mathlib.Core.List.{List, [], ◌∷◌, ◌++◌, append_assoc, append-nil}
use Prim.Native.Nat.{ℕ, zero, suc, ◌+◌, ◌*◌, ◌≤◌, ◌<◌}
use native.Mathlib.Omega.{arith}
use lib.Dec.{eqb-suc-zero}
use lib.ListN.{length, length-append}
use Rattle.conditions.specs.Choose.{choose}
use Rattle.refusals.specs.Outcome.{good}
use Rattle.plane.specs.declared.Point.{Point}
use Rattle.plane.specs.Area.{InArea}
use Rattle.plan.specs.declared.Plan.{Plan}
use Rattle.plan.specs.Limits.{least_radius, most_radius, full_circle}
use Rattle.plan.specs.Places.{points_at, courses_at}
use Rattle.plan.proofs.LimitLaws.{area-test}
use Rattle.records.specs.Numbers.{u16_bytes}
use Rattle.records.specs.Walk.{Walked, more, fills, flat}
use Rattle.records.specs.Kinds.{Parts, no_parts, with_point, with_radius, with_course, point_bytes}
use Rattle.records.specs.Gather.{after, gather}
use Rattle.records.proofs.WrittenLaws.{point-length, u16-length, judge-point, judge-radius, judge-course}
use Rattle.writer.specs.File.{point_records, radius_record, points_of, courses_of, plan_records}

-- a radius other than 0 is written
radius-written : (n : ℕ) (w : Walked) → radius_record (suc n) w ≡ more 2 (u16_bytes (suc n)) w
unfolding radius_record choose
radius-written n w = rw (eqb-suc-zero n)

-- ---- they fill their area
points-fill : (ps : List Point) (cs : List ℕ) → fills (point_records ps cs) ≡ true
unfolding fills point_records
points-fill [] cs = refl
points-fill (p ∷ ps) [] = points-fill ps []
points-fill (p ∷ ps) (c ∷ cs) = points-fill ps cs

radius-fills : (R : ℕ) (w : Walked) → fills w ≡ true → fills (radius_record R w) ≡ true
unfolding fills radius_record choose
radius-fills zero w h = h
radius-fills (suc n) w h = ap fills (radius-written n w) ∙ h

pub plan-fills : (p : Plan) → fills (plan_records p) ≡ true
unfolding plan_records
plan-fills p = radius-fills p.head.radius (point_records (points_of p) (courses_of p)) (points-fill (points_of p) (courses_of p))

-- ---- their bytes: 4 for a radius, and for each point 14 and at most 4 more for its course
points-size : (ps : List Point) (cs : List ℕ) → length (flat (point_records ps cs)) ≤ 18 * length ps
unfolding flat point_records
points-size [] cs = omega arith
points-size (p ∷ ps) [] = simp (length-append, point-length) (omega (arith, points-size ps []))
points-size (p ∷ ps) (c ∷ cs) = simp (length-append, point-length, u16-length) (omega (arith, points-size ps cs))

radius-size : (R : ℕ) (w : Walked) → length (flat (radius_record R w)) ≤ 4 + length (flat w)
unfolding flat radius_record choose
radius-size zero w = omega arith
radius-size (suc n) w = rw (radius-written n w) (simp (length-append, u16-length) (omega arith))

pub plan-size : (p : Plan) → length (flat (plan_records p)) ≤ 4 + 18 * length (points_of p)
unfolding plan_records
plan-size p =
    let w = point_records (points_of p) (courses_of p) in
    omega (arith, radius-size p.head.radius w, points-size (points_of p) (courses_of p))

-- ---- what reader r gathers from them in a file of version v
-- a radius is since 2, a course since 3; both are in range, and so are the points
abbrev pub RadiusCarried : ℕ → ℕ → Type 0
RadiusCarried v R = (R ≡ 0 → ⊥) → (2 ≤ v) × ((least_radius ≤ R) × (R ≤ most_radius))

abbrev pub PointsCarried : List Point → Type 0
PointsCarried ps = (i : ℕ) → i < length ps → InArea (points_at ps i)

abbrev pub CoursesCarried : ℕ → List ℕ → Type 0
CoursesCarried v cs = (i : ℕ) → i < length cs → (3 ≤ v) × (courses_at cs i < full_circle)

pub record Carried (v : ℕ) (p : Plan) : Type 0 where
  pub radius : RadiusCarried v p.head.radius
  pub points : PointsCarried (points_of p)
  pub courses : CoursesCarried v (courses_of p)
  pub fewer : length (courses_of p) ≤ length (points_of p)

-- the parts of a plan; nothing after the last record asks whether it is a point
abbrev pub parts_of_plan : Plan → Bool → Parts
parts_of_plan p g = record { radius = p.head.radius; points = points_of p; courses = courses_of p; at_point = g }

-- more points and courses behind those before
abbrev with_all : Parts → List Point → List ℕ → Bool → Parts
with_all a ps cs g = record { radius = a.radius; points = a.points ++ ps; courses = a.courses ++ cs; at_point = g }

module _ (r v : ℕ) (first : 1 ≤ v) (reads : v ≤ r) where
  -- each point, and its course if it has one
  gather-points : (ps : List Point) (cs : List ℕ) (at : ℕ) (a : Parts) → length cs ≤ length ps → PointsCarried ps → CoursesCarried v cs
      → (g : Bool) × (gather r v at a (point_records ps cs) ≡ good (with_all a ps cs g))
  unfolding gather point_records after
  gather-points [] [] at a l h k = (a.at_point, simp append-nil)
  gather-points [] (c ∷ cs) at a l h k = absurd (omega arith)
  gather-points (p ∷ ps) [] at a l h k =
      let hs : PointsCarried ps = λ i m. h (suc i) (omega arith) in
      let j = judge-point r v (omega arith) first p a (area-test p (h 0 (omega arith))) in
      let x = gather-points ps [] (at + 2 + length (point_bytes p)) (with_point a p) (omega arith) hs k in
      (x.0, rw j (x.1 ∙ simp append_assoc))
  gather-points (p ∷ ps) (c ∷ cs) at a l h k =
      let hs : PointsCarried ps = λ i m. h (suc i) (omega arith) in
      let ks : CoursesCarried v cs = λ i m. k (suc i) (omega arith) in
      let e = k 0 (omega arith) in
      let j = judge-point r v (omega arith) first p a (area-test p (h 0 (omega arith))) in
      let d = judge-course r v (omega arith) e.0 c (with_point a p) e.1 refl in
      let x = gather-points ps cs (at + 2 + length (point_bytes p) + 2 + length (u16_bytes c)) (with_course (with_point a p) c) (omega arith) hs ks in
      (x.0, rw (j, d) (x.1 ∙ simp append_assoc))

  -- the radius before them, if any
  gather-radius : (R : ℕ) (w : Walked) (at : ℕ) → RadiusCarried v R
      → (next : ℕ) × (gather r v at no_parts (radius_record R w) ≡ gather r v next (with_radius no_parts R) w)
  unfolding gather radius_record choose after
  gather-radius zero w at h = (at, refl)
  gather-radius (suc n) w at h =
      let e = h (λ z. omega arith) in
      let j = judge-radius r v (omega arith) e.0 (suc n) no_parts e.1.0 e.1.1 refl refl in
      (at + 2 + length (u16_bytes (suc n)), rw (radius-written n w, j))

  pub gather-plan : (p : Plan) (at : ℕ) → Carried v p → (g : Bool) × (gather r v at no_parts (plan_records p) ≡ good (parts_of_plan p g))
  unfolding plan_records
  gather-plan p at c =
      let e = gather-radius p.head.radius (point_records (points_of p) (courses_of p)) at c.radius in
      let x = gather-points (points_of p) (courses_of p) e.0 (with_radius no_parts p.head.radius) c.fewer c.points c.courses in
      (x.0, e.1 ∙ x.1)
