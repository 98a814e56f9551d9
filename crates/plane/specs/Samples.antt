-- No clause: points by their numbers, for the examples of this crate and of those above it. Assumes nothing.
use Rattle.std.specs.Prelude.{ℕ, ℤ, pos}
use Rattle.plane.specs.declared.Point.{Point}

abbrev pub point : ℤ → ℤ → ℤ → Point
point n e d = record { north = n; east = e; down = d }

-- on the ground
abbrev pub ground : ℕ → ℕ → Point
ground n e = point (pos n) (pos e) (pos 0)
