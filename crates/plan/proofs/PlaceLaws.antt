-- The points at a pair and at a corner of lent numbers. A list in arrays: padded with the default, they have the numbers of the same elements,
-- so that the rules say the same of both. Assumes nothing.
use mathlib.Core.Path.{◌≡◌, refl, sym, subst, ◌∙◌}
use mathlib.Core.List.{List, [], ◌∷◌}
use Prim.Native.Nat.{ℕ, zero, suc, ◌+◌, ◌-◌, ◌≤◌, ◌<◌}
use native.Mathlib.Omega.{arith}
use lib.IntN.{ℤ, pos, nat_abs}
use lib.ListN.{length, get_or}
use lib.Dec.{T}
use lib.Signed.{non_neg}
use mir.Syntax.{w32, w64}
use mir.Val.{Fits, to_z, of_z}
use Rattle.integers.specs.Bounds.{Within}
use Rattle.integers.proofs.BoundLaws.{kept}
use Rattle.plane.specs.declared.Point.{Point}
use Rattle.plane.specs.Area.{InArea}
use Rattle.plan.specs.declared.Mode.{Mode}
use Rattle.plan.specs.Limits.{most_points, full_circle}
use Rattle.plan.specs.Places.{no_point, points_at, courses_at, place_at, course_at, padded}
use Rattle.plan.specs.Rules.{rules_on}
use Rattle.plan.specs.Stands.{IsCourse, There, Placed, Aiming, Counted}

-- ---- the points around place i
module _ {ns es ds : List ℤ} {n : ℕ} (h : Counted ns es ds n) (i : ℕ) where
  pub pair-placed : i < n → Placed ns es ds (i - 1) × Placed ns es ds i
  pair-placed l = (h.placed (i - 1) (omega arith), h.placed i l)

  pub pair-there : i < n → There ns es ds (i - 1) × There ns es ds i
  pair-there l = let p = pair-placed l in (p.0.there, p.1.there)

  pub corner-placed : i + 1 < n → Placed ns es ds (i - 1) × (Placed ns es ds i × Placed ns es ds (i + 1))
  corner-placed l = (h.placed (i - 1) (omega arith), (h.placed i (omega arith), h.placed (i + 1) l))

-- what was read at a place
pub area-at : {ns es ds : List ℤ} {i : ℕ} {p : Point} → p ≡ place_at ns es ds i → Placed ns es ds i → InArea p
area-at e h = subst InArea (sym e) h.area

pub course-low : {cs : List ℤ} {i χ : ℕ} → χ ≡ course_at cs i → Aiming cs i → χ < full_circle
course-low e h = subst (λ (n : ℕ). n < full_circle) (sym e) h.course.low

-- and read as a number with no sign
pub course-casts : (z : ℤ) → IsCourse z → T (non_neg (to_z w32 (of_z w32 z))) × Fits w64 (nat_abs (to_z w32 (of_z w32 z)))
course-casts z h =
    let w : Within full_circle z = record { within = omega (arith, h.low) } in
    let e = kept w32 w tt ∙ h.sign in
    subst (λ (x : ℤ). T (non_neg x) × Fits w64 (nat_abs x)) (sym e) (tt, record { fits = omega (arith, h.low) })

-- ---- lists in arrays
pub padded-at : {A B : Type 0} (f : A → B) (n : ℕ) (d : A) (xs : List A) → length xs ≤ n → (i : ℕ) → get_or (padded f n (f d) xs) i (f d) ≡ f (get_or xs i d)
unfolding padded
padded-at f zero d [] h i = refl
padded-at f zero d (x ∷ xs) h i = absurd (omega arith)
padded-at f (suc n) d [] h zero = refl
padded-at f (suc n) d [] h (suc i) = padded-at f n d [] (omega arith) i
padded-at f (suc n) d (x ∷ xs) h zero = refl
padded-at f (suc n) d (x ∷ xs) h (suc i) = padded-at f n d xs (omega arith) i

-- the points of a list, in three arrays
abbrev pub padded_at : List Point → ℕ → Point
padded_at ps = place_at (padded (λ (p : Point). p.north) most_points (pos 0) ps) (padded (λ (p : Point). p.east) most_points (pos 0) ps) (padded (λ (p : Point). p.down) most_points (pos 0) ps)

pub points-padded : (ps : List Point) → length ps ≤ most_points → (i : ℕ) → padded_at ps i ≡ points_at ps i
points-padded ps h i =
    λ t. record {
      north = padded-at (λ (p : Point). p.north) most_points no_point ps h i t;
      east = padded-at (λ (p : Point). p.east) most_points no_point ps h i t;
      down = padded-at (λ (p : Point). p.down) most_points no_point ps h i t;
    }

pub rules-padded : (mode : Mode) (R given n : ℕ) (ps : List Point) (cs : List ℕ) → length ps ≤ most_points → length cs ≤ most_points
    → rules_on mode R given n (padded_at ps) (course_at (padded pos most_points (pos 0) cs)) ≡ rules_on mode R given n (points_at ps) (courses_at cs)
rules-padded mode R given n ps cs h k =
    λ t. rules_on mode R given n (λ (i : ℕ). points-padded ps h i t) (λ (i : ℕ). nat_abs (padded-at pos most_points 0 cs k i t))
