-- A position at the end of a leg is past it: the last leg of lines and fillets, and phase 5 of a Dubins leg. Assumes nothing.
use mathlib.Core.Path.{◌≡◌, ap, ◌∙◌}
use mathlib.Core.Bool.{Bool, true, false}
use Prim.Native.Nat.{ℕ}
use lib.IntN.{ℤ, pos, ◌+ℤ◌, ◌-ℤ◌, ◌*ℤ◌, +ℤ_invr, zero-*ℤ}
use lib.Signed.{le_z}
use Rattle.conditions.specs.Choose.{choose}
use Rattle.course.specs.declared.Vector.{Vector}
use Rattle.course.specs.Direction.{direction_of}
use Rattle.plane.specs.declared.Point.{Point}
use Rattle.plane.specs.declared.Leg.{Leg}
use Rattle.plane.specs.Area.{leg_of, level_of}
use Rattle.plane.specs.Level.{minus, dot_of, level_leg_of}
use Rattle.plane.specs.Half.{dot3_of}
use Rattle.guidance.specs.declared.View.{View}
use Rattle.guidance.specs.declared.View.TheVariants.{Level, InSpace}
use Rattle.guidance.specs.Guide.{from_of, past_of, reached_of, leg_ended, end_passed}

-- (z − z)·y
nothing-times : (z y : ℤ) → (z -ℤ z) *ℤ y ≡ pos 0
nothing-times z y = ap (λ (x : ℤ). x *ℤ y) (+ℤ_invr z) ∙ zero-*ℤ y

-- (p − p)·v, in north and east and in three dimensions
level-nothing : (p : Point) (v : Vector) → dot_of (from_of (level_of p) p) v ≡ pos 0
unfolding dot_of from_of minus
level-nothing p v = λ i. nothing-times (level_of p).north v.north i +ℤ nothing-times (level_of p).east v.east i

nothing : (p : Point) (l : Leg) → dot3_of (leg_of p p) l ≡ pos 0
unfolding dot3_of leg_of
nothing p l = λ i. nothing-times p.north l.north i +ℤ nothing-times p.east l.east i +ℤ nothing-times p.down l.down i

pub ended-there : (view : View) (a b : Point) → leg_ended view a b b ≡ true
unfolding leg_ended past_of
ended-there Level a b = ap (le_z (pos 0)) (level-nothing b (level_leg_of a b))
ended-there InSpace a b = ap (le_z (pos 0)) (nothing b (leg_of a b))

pub phase-5-there : (end : Point) (χe : ℕ) → end_passed end χe 5 end ≡ true
unfolding end_passed choose reached_of
phase-5-there end χe = ap (le_z (pos 0)) (level-nothing end (direction_of χe))
