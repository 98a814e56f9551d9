-- Refusal 10 by comparison: the squared level leg of two points is 0 exactly where they are equal in north and east. Assumes nothing.
use mathlib.Core.Path.{◌≡◌, ap}
use native.Mathlib.Omega.{arith}
use lib.IntN.{ℤ, pos, ◌-ℤ◌}
use borrow.Author.Tests.{eq-eqb, ne_eqb}
use Rattle.conditions.proofs.ChooseLaws.{choose-true, choose-false}
use Rattle.integers.proofs.Ring.{v, lit, sub, same, same_of}
use Rattle.refusals.specs.Numbers.{equal_neighbours}
use Rattle.course.specs.declared.Vector.{Vector}
use Rattle.course.specs.Vectors.{plain}
use Rattle.course.proofs.VectorLaws.{vector}
use Rattle.plane.specs.declared.Point.{Point}
use Rattle.plane.specs.Area.{level_of}
use Rattle.plane.specs.Level.{minus, level_leg_of, dot_of, square_of}
use Rattle.plane.proofs.LevelLaws.{square-zero}
use Rattle.plan.specs.Rules.{pair_number}

-- a difference is 0 exactly of equal numbers
less_zero : (y z : ℤ) → y ≡ z → z -ℤ y ≡ pos 0
less_zero y z e = same (sub (v z) (v y)) (lit 0) (omega (arith, same_of (v y) (v z) e))

zero-less : (y z : ℤ) → z -ℤ y ≡ pos 0 → y ≡ z
zero-less y z e = same (v y) (v z) (omega (arith, same_of (sub (v z) (v y)) (lit 0) e))

module _ (a b : Point) where
  leg-zero : a.north ≡ b.north → a.east ≡ b.east → level_leg_of a b ≡ plain 0 0
  unfolding level_leg_of level_of minus
  leg-zero p q = vector (less_zero a.north b.north p) (less_zero a.east b.east q)

  zero-leg : level_leg_of a b ≡ plain 0 0 → (a.north ≡ b.north) × (a.east ≡ b.east)
  unfolding level_leg_of level_of minus
  zero-leg e = (zero-less a.north b.north (ap (λ (l : Vector). l.north) e), zero-less a.east b.east (ap (λ (l : Vector). l.east) e))

  square-none : level_leg_of a b ≡ plain 0 0 → square_of (level_leg_of a b) ≡ 0
  unfolding square_of dot_of
  square-none e = ap square_of e

  pub pair-equal : a.north ≡ b.north → a.east ≡ b.east → pair_number a b ≡ equal_neighbours
  unfolding pair_number
  pair-equal p q = choose-true _ equal_neighbours 0 (eq-eqb (square_of (level_leg_of a b)) 0 (square-none (leg-zero p q)))

  pub pair-apart : (a.north ≡ b.north → a.east ≡ b.east → ⊥) → pair_number a b ≡ 0
  unfolding pair_number
  pair-apart h =
      choose-false _ equal_neighbours 0
      (ne_eqb (square_of (level_leg_of a b)) 0 (λ z. let e = zero-leg (square-zero (level_leg_of a b) z) in h e.0 e.1))
