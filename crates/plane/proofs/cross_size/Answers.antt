-- `cross_size` adds the magnitudes of the cross product's parts. Assumes nothing.
use mathlib.Core.Path.{◌≡◌, ◌∙◌}
use Prim.Native.Nat.{ℕ, ◌+◌}
use lib.IntN.{ℤ}
use mir.Syntax.{w64}
use mir.Val.{to_z, of_z}
use Rattle.integers.proofs.BoundLaws.{bound, kept}
use Rattle.plane.specs.declared.Leg.{Leg}
use Rattle.plane.specs.Area.{IsLeg}
use Rattle.plane.specs.Half.{minor_size, cross_size}
use Rattle.plane.proofs.cross_size.Goals as goal

-- the parts of a leg as the machine reads them
abbrev read : ℤ → ℤ
read z = to_z w64 (of_z w64 z)

record Read (l : Leg) : Type 0 where
  north : read l.north ≡ l.north
  east : read l.east ≡ l.east
  down : read l.down ≡ l.down

kept-leg : {l : Leg} → IsLeg l → Read l
kept-leg h = record { north = kept w64 h.north tt; east = kept w64 h.east tt; down = kept w64 h.down tt }

whole : (a b : Leg) {x y z : ℕ} → Read a → Read b
    → x ≡ minor_size (read a.east) (read a.down) (read b.east) (read b.down)
    → y ≡ minor_size (read a.down) (read a.north) (read b.down) (read b.north)
    → z ≡ minor_size (read a.north) (read a.east) (read b.north) (read b.east)
    → x + y + z ≡ cross_size a b
unfolding cross_size
whole a b p q x y z =
    (λ i. (x ∙ (λ j. minor_size (p.east j) (p.down j) (q.east j) (q.down j))) i
    + (y ∙ (λ j. minor_size (p.down j) (p.north j) (q.down j) (q.north j))) i
    + (z ∙ (λ j. minor_size (p.north j) (p.east j) (q.north j) (q.east j))) i)

pub minor_size-north-requires : goal.minor_size-north-requires
minor_size-north-requires c =
    ((search bound depth 20 fits 5000, search bound depth 20 fits 5000), (search bound depth 20 fits 5000, search bound depth 20 fits 5000))

pub minor_size-east-requires : goal.minor_size-east-requires
minor_size-east-requires c =
    ((search bound depth 20 fits 5000, search bound depth 20 fits 5000), (search bound depth 20 fits 5000, search bound depth 20 fits 5000))

pub returns : goal.returns
returns c =
    whole c.args.a c.args.b (kept-leg c.requires.0) (kept-leg c.requires.1) c.minor_size-north.ensures.0 c.minor_size-east.ensures.0 c.minor_size-down.ensures.0
