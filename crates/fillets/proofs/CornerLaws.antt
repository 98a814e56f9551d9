-- How far a corner's parts go. Assumes nothing.
use mathlib.Core.Path.{◌≡◌, sym, subst}
use mathlib.Core.Bool.{Bool}
use Prim.Native.Nat.{ℕ, ◌≤◌}
use Rattle.course.specs.declared.Vector.{Vector}
use Rattle.course.specs.Vectors.{Near}
use Rattle.course.specs.Offset.{offset_of}
use Rattle.course.proofs.VectorLaws.{near_le}
use Rattle.course.proofs.OffsetLaws.{offset_near}
use Rattle.plane.specs.Level.{minus, sideways_of}
use Rattle.plane.proofs.LevelLaws.{plus-near, minus-near}
use Rattle.fillets.specs.declared.Corner.{Corner}
use Rattle.fillets.specs.Corners.{rounded_of, IsCorner}

module _ (point : Vector) (j T : ℕ) (p : Near 500000 point) (t : T ≤ 50280) where
  pub z1-near : Near 550280 (minus point (offset_of T j))
  z1-near = minus-near point (offset_of T j) p (near_le t (offset_near T j))

  pub rounded-is : (k : ℕ) (right : Bool) (R : ℕ) → R ≤ 10000 → IsCorner (rounded_of point j k right R T)
  unfolding rounded_of
  rounded-is k right R r =
      record {
        tangent = t;
        z1 = z1-near;
        z2 = plus-near point (offset_of T k) p (near_le t (offset_near T k));
        centre = plus-near (minus point (offset_of T j)) (offset_of R (sideways_of j right)) z1-near (near_le r (offset_near R (sideways_of j right)));
      }

-- an equation, and the bounds of what it says
pub corner-carried : {r c : Corner} → r ≡ c → IsCorner c → (r ≡ c) × IsCorner r
corner-carried e h = (e, subst IsCorner (sym e) h)
