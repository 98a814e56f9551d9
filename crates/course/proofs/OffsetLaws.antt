-- An offset by m lies within m. Assumes nothing.
use Prim.Native.Nat.{ℕ}
use native.Mathlib.Nat.{le_refl}
use lib.IntN.{ℤ, pos, ◌*ℤ◌}
use Rattle.integers.specs.Bounds.{Within}
use Rattle.integers.specs.Round.{nearest_of}
use Rattle.integers.proofs.BoundLaws.{within-mul}
use Rattle.integers.proofs.RoundLaws.{nearest-within}
use Rattle.course.specs.Vectors.{Near}
use Rattle.course.specs.Direction.{direction_of}
use Rattle.course.specs.Offset.{offset_of}
use Rattle.course.proofs.DirectionLaws.{direction-near}

pub part-within : (m : ℕ) (d : ℤ) → Within 16384 d → Within m (nearest_of (pos m *ℤ d))
part-within m d h = nearest-within m (pos m *ℤ d) (within-mul (pos m) d (record { within = le_refl m }) h)

pub offset_near : (m k : ℕ) → Near m (offset_of m k)
unfolding offset_of
offset_near m k =
    let d = direction-near k in
    record { north = part-within m (direction_of k).north d.north; east = part-within m (direction_of k).east d.east }
