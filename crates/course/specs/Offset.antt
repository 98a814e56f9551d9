-- Clause 2.8: m along D(k), rounded to whole decimetres. Assumes nothing.
use Rattle.std.specs.Prelude.{ℕ, pos, ◌*ℤ◌}
use Rattle.integers.specs.Round.{nearest_of}
use Rattle.course.specs.declared.Vector.{Vector}
use Rattle.course.specs.Direction.{direction_of}

unfoldable pub offset_of : ℕ → ℕ → Vector
offset_of m k = record { north = nearest_of (pos m *ℤ (direction_of k).north); east = nearest_of (pos m *ℤ (direction_of k).east) }
