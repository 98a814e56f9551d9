-- Sums over places, and the length from a place on by that from the next one. Assumes nothing.
use mathlib.Core.Path.{◌≡◌, refl}
use Prim.Native.Nat.{ℕ, zero, suc, ◌+◌, ◌-◌, ◌<◌}
use native.Mathlib.Omega.{arith}
use Rattle.plane.specs.declared.Point.{Point}
use Rattle.plan.specs.declared.Mode.{Mode}
use Rattle.plan.specs.declared.Mode.TheVariants.{Lines, Dubins}
use Rattle.distance.specs.Lengths.{total, leg_length, corner_arc, length_from}

module _ (f : ℕ → ℕ) where
  pub total-next : (n i : ℕ) → i < n → total f (n - i) i ≡ f i + total f (n - (i + 1)) (i + 1)
  unfolding total
  total-next n i h = let e : n - i ≡ suc (n - (i + 1)) = omega arith in rw e

  pub total-none : ((j : ℕ) → f j ≡ 0) → (k i : ℕ) → total f k i ≡ 0
  unfolding total
  total-none z zero i = refl
  total-none z (suc k) i = omega (arith, z i, total-none z k (i + 1))

-- lines and Dubins plans have no arcs beside their legs
pub lines-arcs : (R : ℕ) (at : ℕ → Point) (k i : ℕ) → total (corner_arc Lines R at) k i ≡ 0
unfolding corner_arc
lines-arcs R at = total-none (corner_arc Lines R at) (λ j. refl)

pub dubins-arcs : (R : ℕ) (at : ℕ → Point) (k i : ℕ) → total (corner_arc Dubins R at) k i ≡ 0
unfolding corner_arc
dubins-arcs R at = total-none (corner_arc Dubins R at) (λ j. refl)

module _ (mode : Mode) (R n : ℕ) (at : ℕ → Point) (course : ℕ → ℕ) where
  -- nothing lies behind the last point
  pub length-end : length_from mode R n at course n ≡ 0
  unfolding length_from total
  length-end =
      let a : n - n ≡ 0 = omega arith in
      let b : n - 1 - n ≡ 0 = omega arith in
      rw (a, b)

  -- a leg and the arc at its end, and what lies behind
  pub length-next : (i arc leg : ℕ) → i < n → leg ≡ leg_length mode R n at course i
      → total (corner_arc mode R at) (n - 1 - i) i ≡ arc + total (corner_arc mode R at) (n - 1 - (i + 1)) (i + 1)
      → length_from mode R n at course (i + 1) + arc + leg ≡ length_from mode R n at course i
  unfolding length_from
  length-next i arc leg h e a = omega (arith, total-next (leg_length mode R n at course) n i h, e, a)
