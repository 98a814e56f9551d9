-- The limits of a plan's numbers: what a test that passes says, and a bound as the test that it passes. Assumes nothing.
use mathlib.Core.Path.{◌≡◌, refl, sym, ◌∙◌}
use mathlib.Core.Bool.{Bool, true, false}
use Prim.Native.Nat.{ℕ, zero, suc, ◌≤◌, ◌<◌}
use native.Mathlib.Omega.{arith}
use lib.Dec.{leb}
use lib.IntN.{ℤ, pos, negsuc}
use borrow.Author.Tests.{eqb-true, leb-true, le-leb}
use Rattle.conditions.specs.Choose.{choose}
use Rattle.conditions.specs.Both.{both}
use Rattle.conditions.proofs.Bools.{clash, both-on, both_true, both_first, both-second, both-last}
use Rattle.integers.specs.Bounds.{Within}
use Rattle.integers.proofs.BoundLaws.{within-le}
use Rattle.plane.specs.declared.Point.{Point}
use Rattle.plane.specs.Area.{InArea}
use Rattle.plan.specs.declared.Mode.{Mode}
use Rattle.plan.specs.declared.Mode.TheVariants.{Lines, Fillets, Dubins}
use Rattle.plan.specs.Limits.{most_level, most_down, least_radius, most_radius, full_circle, signed_between, number_fits, inside_of, in_area_of, zero_of, arc_radius, radius_fits}
use Rattle.plan.specs.Stands.{point_fits, IsCourse}

-- an answer of the code, and what the test tells where it passes
pub told : {A : Type 0} (r test : Bool) → (test ≡ true → A) → r ≡ test → (r ≡ test) × (r ≡ true → A)
told r test f e = (e, (λ t. f (sym e ∙ t)))

-- ---- numbers between limits
pos-between : (low high c : ℕ) → signed_between low high (pos c) ≡ leb c high
unfolding signed_between both
pos-between zero high c = both-on (leb 0 c) (leb c high) (le-leb 0 c (omega arith))
pos-between (suc n) high c = refl

pub within-means : (n : ℕ) (z : ℤ) → signed_between n n z ≡ true → Within n z
unfolding signed_between both
within-means n (pos k) h = record { within = leb-true k n (sym (pos-between n n k) ∙ h) }
within-means zero (negsuc k) h = clash false h refl
within-means (suc n) (negsuc k) h = record { within = omega (arith, leb-true k n (both_first (leb k n) true h)) }

within-test : (n : ℕ) (z : ℤ) → Within n z → signed_between n n z ≡ true
unfolding signed_between both
within-test n (pos k) h = pos-between n n k ∙ le-leb k n h.within
within-test zero (negsuc k) h = absurd (omega (arith, h.within))
within-test (suc n) (negsuc k) h = both-last (leb k n) true refl ∙ le-leb k n (omega (arith, h.within))

pub zero-means : (z : ℤ) → signed_between 0 0 z ≡ true → z ≡ pos 0
zero-means (pos zero) h = refl
zero-means (pos (suc k)) h = absurd (omega (arith, (within-means 0 (pos (suc k)) h).within))
zero-means (negsuc k) h = absurd (omega (arith, (within-means 0 (negsuc k) h).within))

-- courses, which are not negative
pub course-test : (m c : ℕ) → c ≤ m → signed_between 0 m (pos c) ≡ true
course-test m c h = pos-between 0 m c ∙ le-leb c m h

pub course-means : (m : ℕ) (χ : ℤ) → m < full_circle → signed_between 0 m χ ≡ true → IsCourse χ
unfolding signed_between both
course-means m (pos n) l h = record { sign = refl; low = omega (arith, leb-true n m (sym (pos-between 0 m n) ∙ h)) }
course-means m (negsuc n) l h = clash false h refl

-- a point fits where each of its numbers does
pub point-numbers : (used : Bool) (p : Point)
    → point_fits used p
    ≡ both (number_fits used most_level most_level p.north)
    (both (number_fits used most_level most_level p.east) (number_fits used most_down most_down p.down))
unfolding point_fits in_area_of zero_of inside_of choose
point-numbers true p = refl
point-numbers false p = refl

-- ---- points
-- within limits of at most the area's
inside-area : (level down : ℕ) (p : Point) → level ≤ most_level → down ≤ most_down → inside_of level down p ≡ true → InArea p
unfolding inside_of
inside-area level down p l d h =
    let k = both-second (signed_between level level p.north) (both (signed_between level level p.east) (signed_between down down p.down)) h in
    record {
      north = within-le l (within-means level p.north (both_first (signed_between level level p.north) (both (signed_between level level p.east) (signed_between down down p.down)) h));
      east = within-le l (within-means level p.east (both_first (signed_between level level p.east) (signed_between down down p.down) k));
      down = within-le d (within-means down p.down (both-second (signed_between level level p.east) (signed_between down down p.down) k));
    }

pub area-means : (p : Point) → in_area_of p ≡ true → InArea p
unfolding in_area_of
area-means p h = inside-area most_level most_down p (omega arith) (omega arith) h

pub zero-area : (p : Point) → zero_of p ≡ true → InArea p
unfolding zero_of
zero-area p h = inside-area 0 0 p (omega arith) (omega arith) h

pub area-test : (p : Point) → InArea p → in_area_of p ≡ true
unfolding in_area_of inside_of
area-test p h =
    both_true (signed_between most_level most_level p.north) (both (signed_between most_level most_level p.east) (signed_between most_down most_down p.down)) (within-test most_level p.north h.north)
    (both_true (signed_between most_level most_level p.east) (signed_between most_down most_down p.down) (within-test most_level p.east h.east) (within-test most_down p.down h.down))

-- ---- radii
pub arc-least : (R : ℕ) → arc_radius R ≡ true → least_radius ≤ R
unfolding arc_radius
arc-least R h = leb-true least_radius R (both_first (leb least_radius R) (leb R most_radius) h)

pub arc-most : (R : ℕ) → arc_radius R ≡ true → R ≤ most_radius
unfolding arc_radius
arc-most R h = leb-true R most_radius (both-second (leb least_radius R) (leb R most_radius) h)

pub arc-test : (R : ℕ) → least_radius ≤ R → R ≤ most_radius → arc_radius R ≡ true
unfolding arc_radius
arc-test R h k = both_true (leb least_radius R) (leb R most_radius) (le-leb least_radius R h) (le-leb R most_radius k)

pub radius-most : (mode : Mode) (R : ℕ) → radius_fits mode R ≡ true → R ≤ most_radius
unfolding radius_fits
radius-most Lines R h = omega (arith, eqb-true R 0 h)
radius-most Fillets R h = arc-most R h
radius-most Dubins R h = arc-most R h
