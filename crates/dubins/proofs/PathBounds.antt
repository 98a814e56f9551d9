-- Bounds of a case's centres, of what lies between them and of its straight part. Assumes nothing.
use Rattle.std.proofs.Common.{Option, Some, None}
use mathlib.Core.Path.{◌≡◌, sym, subst}
use mathlib.Core.Bool.{Bool, true, false, not}
use Prim.Native.Nat.{ℕ, ◌+◌, ◌-◌, ◌*◌, ◌≤◌}
use native.Mathlib.Omega.{arith}
use lib.IntN.{ℤ, pos, ◌*ℤ◌}
use Rattle.conditions.specs.Choose.{choose}
use Rattle.integers.specs.Bounds.{Within}
use Rattle.integers.specs.Root.{root_of}
use Rattle.integers.proofs.BoundLaws.{within-plus, within-less, within-mul}
use Rattle.integers.proofs.RootLaws.{root-lt}
use Rattle.course.specs.declared.Vector.{Vector}
use Rattle.course.specs.Vectors.{Near}
use Rattle.course.specs.Offset.{offset_of}
use Rattle.course.proofs.VectorLaws.{near_le}
use Rattle.course.proofs.OffsetLaws.{offset_near as offset-within}
use Rattle.plane.specs.Level.{plus, square_of, sideways_of}
use Rattle.plane.proofs.LevelLaws.{plus-near, square_le}
use Rattle.dubins.specs.declared.Case.{Case}
use Rattle.dubins.specs.declared.Way.{Way}
use Rattle.dubins.specs.Limits.{IsPath, IsFound}
use Rattle.dubins.specs.Cases.{starts_right, ends_right, same_side, straight_of, inner_tangent, touch_of}
use Rattle.dubins.specs.Ways.{IsWay, IsTried, path_along, found_by}

-- a radius from a
pub offset_near : {n m : ℕ} {r : Vector} (a d : Vector) → r ≡ plus a d → Near n a → Near m d → m ≤ 10000 → Near (n + 10000) r
offset_near {n} a d e h k l = subst (Near (n + 10000)) (sym e) (plus-near a d h (near_le l k))

-- z1 and z2 lie a radius from their centres
touch-near : (centre : Vector) (R θ : ℕ) (right : Bool) → Near 510000 centre → R ≤ 10000 → Near 520000 (touch_of centre R θ right)
unfolding touch_of
touch-near centre R θ right h r = plus-near centre (offset_of R (sideways_of θ (not right))) h (near_le r (offset-within R (sideways_of θ (not right))))

pub path-is : (R : ℕ) (w : Way) → IsWay w → R ≤ 10000 → IsPath (path_along R w)
unfolding path_along
path-is R w h r =
    record {
      course = h.course;
      length = h.length;
      start = h.start;
      end = h.end;
      z1 = touch-near w.start R w.course (starts_right w.case) h.start r;
      z2 = touch-near w.end R w.course (ends_right w.case) h.end r;
    }

pub found-is : (R : ℕ) (tried : Option Way) → IsTried tried → R ≤ 10000 → IsFound (found_by R tried)
unfolding found_by
found-is R (Some w) h r = path-is R w h r
found-is R None h r = tt

-- v·v is at most 2·1,020,000², and the straight part is its root or that of less
pub straight-le : (case : Case) (R : ℕ) (v : Vector) → Near 1020000 v → straight_of case R v ≤ 1442497
unfolding straight_of choose
straight-le case R v h = by_side (same_side case)
  where
    low : (n : ℕ) → n ≤ square_of v → root_of n ≤ 1442497
    low n k = omega (arith, root-lt n 1442498 (omega (arith, square_le v h)))

    by_side : (t : Bool) → choose t (root_of (square_of v)) (root_of (square_of v - 4 * R * R)) ≤ 1442497
    by_side true = low (square_of v) (omega arith)
    by_side false = low (square_of v - 4 * R * R) (omega arith)

pub twice-le : {R : ℕ} → R ≤ 10000 → 2 * R ≤ 20000
twice-le h = omega arith

module _ (R s : ℕ) (v : Vector) (h : Near 1020000 v) (k : s ≤ 1442497) (l : R ≤ 10000) where
  along : (z : ℤ) → Within 1020000 z → Within 1471346940000 (pos s *ℤ z)
  along z b = within-mul (pos s) z {m = 1442497} (record { within = k }) b

  across : (z : ℤ) → Within 1020000 z → Within 20400000000 (pos (2 * R) *ℤ z)
  across z b = within-mul (pos (2 * R)) z {m = 20000} (record { within = twice-le l }) b

  pub inner-near : (right : Bool) → Near 1491746940000 (inner_tangent right R s v)
  unfolding inner_tangent choose
  inner-near true =
      record {
        north = within-less (pos s *ℤ v.north) (pos (2 * R) *ℤ v.east) (along v.north h.north) (across v.east h.east);
        east = within-plus (pos s *ℤ v.east) (pos (2 * R) *ℤ v.north) (along v.east h.east) (across v.north h.north);
      }
  inner-near false =
      record {
        north = within-plus (pos s *ℤ v.north) (pos (2 * R) *ℤ v.east) (along v.north h.north) (across v.east h.east);
        east = within-less (pos s *ℤ v.east) (pos (2 * R) *ℤ v.north) (along v.east h.east) (across v.north h.north);
      }
