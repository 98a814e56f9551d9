-- When the cases of a leg exist. Ends that are three radii apart have one, where the radius is not 0: the ends of a leg whose RSR does not exist differ by no more than
-- two offsets, so by at most two radii in north and in east. Assumes nothing.
use mathlib.Core.Path.{◌≡◌, refl, ap}
use mathlib.Core.Bool.{true, false}
use Prim.Native.Nat.{ℕ, ◌*◌, ◌≤◌, ◌<◌}
use native.Mathlib.Nat.{mul-le-mul}
use native.Mathlib.Omega.{arith}
use lib.IntN.{ℤ, pos, ◌+ℤ◌, ◌-ℤ◌}
use borrow.Author.Tests.{leb-true}
use Rattle.conditions.specs.Choose.{choose}
use Rattle.integers.proofs.Ring.{v, lit, add, sub, same, same_of}
use Rattle.course.specs.declared.Vector.{Vector}
use Rattle.course.specs.Vectors.{Near, plain}
use Rattle.course.specs.Offset.{offset_of}
use Rattle.course.proofs.VectorLaws.{vector}
use Rattle.course.proofs.OffsetLaws.{offset_near}
use Rattle.plane.specs.Area.{level_of}
use Rattle.plane.specs.Level.{plus, minus, square_of, sideways_of}
use Rattle.plane.proofs.LevelLaws.{minus-near, square_le}
use Rattle.dubins.specs.declared.Case.{Case}
use Rattle.dubins.specs.declared.Case.TheVariants.{Rsr, Rsl, Lsr, Lsl}
use Rattle.dubins.specs.declared.Ends.{Ends}
use Rattle.dubins.specs.Cases.{starts_right, ends_right, same_side, centre_of, circles_of, case_exists}
use Rattle.dubins.specs.Choice.{has_path_of, far_apart, OuterWhen, InnerWhen, Existence}
use Rattle.dubins.proofs.ExistenceLaws.{outer-exists, outer-apart, inner-exists, inner-apart}

-- ---- one centre for both circles: the ends lie apart as the offsets do
moved : (a b d e : ℤ) → (b +ℤ e) -ℤ (a +ℤ d) ≡ pos 0 → b -ℤ a ≡ d -ℤ e
moved a b d e h = same (sub (v b) (v a)) (sub (v d) (v e)) (omega (arith, same_of (sub (add (v b) (v e)) (add (v a) (v d))) (lit 0) h))

module _ (a b d e : Vector) where
  offsets-part : minus (plus b e) (plus a d) ≡ plain 0 0 → minus b a ≡ minus d e
  unfolding plus minus
  offsets-part h =
      vector (moved a.north b.north d.north e.north (ap (λ (u : Vector). u.north) h))
      (moved a.east b.east d.east e.east (ap (λ (u : Vector). u.east) h))

  -- 9R² is more than the 8R² of such offsets
  centres-differ : (R : ℕ) → Near R d → Near R e → 0 < R → 9 * R * R ≤ square_of (minus b a) → minus (plus b e) (plus a d) ≡ plain 0 0 → ⊥
  centres-differ R h k l far z = omega (arith, far, ap square_of (offsets-part z), square_le (minus d e) (minus-near d e h k), mul-le-mul l l)

same-side : (same_side Rsr ≡ true) × (same_side Lsl ≡ true)
unfolding same_side starts_right ends_right choose
same-side = (refl, refl)

other-side : (same_side Rsl ≡ false) × (same_side Lsr ≡ false)
unfolding same_side starts_right ends_right choose
other-side = (refl, refl)

module _ (ends : Ends) (l : 0 < ends.radius) (h : far_apart ends.start ends.end ends.radius ≡ true) where
  first-exists : case_exists ends Rsr ≡ true
  unfolding far_apart circles_of centre_of
  first-exists =
      let R = ends.radius in
      let d = sideways_of ends.leave (starts_right Rsr) in
      let e = sideways_of ends.arrive (ends_right Rsr) in
      outer-exists Rsr R (circles_of ends Rsr).v same-side.0
      (centres-differ (level_of ends.start) (level_of ends.end) (offset_of R d) (offset_of R e) R (offset_near R d) (offset_near R e) l (leb-true _ _ h))

  pub far-exists : has_path_of ends ≡ true
  unfolding has_path_of
  far-exists = simp first-exists

module _ (ends : Ends) (case : Case) where
  outer-when : same_side case ≡ true → OuterWhen ends case
  outer-when h = let v = (circles_of ends case).v in (outer-apart case ends.radius v h, outer-exists case ends.radius v h)

  inner-when : same_side case ≡ false → InnerWhen ends case
  inner-when h = let v = (circles_of ends case).v in (inner-apart case ends.radius v h, inner-exists case ends.radius v h)

pub existence : (ends : Ends) → Existence ends
existence ends =
    record {
      rsr = outer-when ends Rsr same-side.0;
      rsl = inner-when ends Rsl other-side.0;
      lsr = inner-when ends Lsr other-side.1;
      lsl = outer-when ends Lsl same-side.1;
      far = λ l h. far-exists ends l h;
    }
