-- Bounds of legs in three dimensions and of their products. Assumes nothing.
use mathlib.Core.Path.{◌≡◌, sym, subst}
use Prim.Native.Nat.{◌≤◌}
use lib.IntN.{ℤ, ◌+ℤ◌, ◌*ℤ◌}
use Rattle.integers.specs.Bounds.{Within}
use Rattle.integers.proofs.BoundLaws.{within-plus, within-less, within-mul}
use Rattle.plane.specs.declared.Point.{Point}
use Rattle.plane.specs.declared.Leg.{Leg}
use Rattle.plane.specs.Area.{InArea, IsLeg, leg_of}
use Rattle.plane.specs.Half.{dot3_of, square3_of}

pub leg : {n e d n' e' d' : ℤ} → n ≡ n' → e ≡ e' → d ≡ d' → ◌≡◌ {A = Leg} (record { north = n; east = e; down = d }) (record { north = n'; east = e'; down = d' })
leg p q r = cc

pub leg-is : (a b : Point) → InArea a → InArea b → IsLeg (leg_of a b)
unfolding leg_of
leg-is a b h k =
    record {
      north = within-less b.north a.north k.north h.north;
      east = within-less b.east a.east k.east h.east;
      down = within-less b.down a.down k.down h.down;
    }

pub dot3-within : (a b : Leg) → IsLeg a → IsLeg b → Within 2040000000000 (dot3_of a b)
unfolding dot3_of
dot3-within a b h k =
    within-plus (a.north *ℤ b.north +ℤ a.east *ℤ b.east) (a.down *ℤ b.down)
    (within-plus (a.north *ℤ b.north) (a.east *ℤ b.east) (within-mul a.north b.north h.north k.north) (within-mul a.east b.east h.east k.east))
    (within-mul a.down b.down h.down k.down)

pub square3-le : (a : Leg) → IsLeg a → square3_of a ≤ 2040000000000
unfolding square3_of
square3-le a h = (dot3-within a a h h).within

-- an equation, and the bounds of what it says
pub leg-carried : {r l : Leg} → r ≡ l → IsLeg l → (r ≡ l) × IsLeg r
leg-carried e h = (e, subst IsLeg (sym e) h)
