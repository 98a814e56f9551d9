-- Laws of the edges of the units: all that the proof of the bearing knows of them. Assumes nothing.
use mathlib.Core.Path.{◌≡◌, sym, ap, ◌∙◌}
use Prim.Native.Nat.{ℕ, suc, ◌+◌, ◌-◌, ◌/◌, ◌%◌, ◌≤◌, ◌<◌}
use native.Mathlib.Omega.{arith}
use Rattle.course.specs.Vectors.{plain}
use Rattle.course.specs.Direction.{quarter, turned, direction_of}
use Rattle.course.specs.Bearing.{edge_of, edge_north, edge_east}
use Rattle.course.proofs.TableLaws.{never-falls, sine-1, sine-most}
use Rattle.course.proofs.DirectionLaws.{first, same-turned, direction-here, direction-next}

direction-quarter : (k : ℕ) → direction_of (k + 1024) ≡ quarter (direction_of k)
unfolding turned
direction-quarter k =
    direction-here (k + 1024)
    ∙ same-turned ((k + 1024) / 1024) (suc (k / 1024)) ((k + 1024) % 1024) (k % 1024) (omega arith) (omega arith)
    ∙ sym (ap quarter (direction-here k))

-- D(j), j = 1..1024, by its neighbour below, which lies in the first quarter
direction-first : (i : ℕ) → i < 1024 → direction_of (suc i) ≡ first (suc i)
unfolding turned
direction-first i h = direction-next i ∙ same-turned (i / 1024) 0 (suc (i % 1024)) (suc i) (omega arith) (omega arith)

pub edge-quarter : (k : ℕ) → edge_of (k + 1024) ≡ quarter (edge_of k)
unfolding edge_of
edge-quarter k = direction-quarter k

pub edge-first : (i : ℕ) → i < 1024 → edge_of (suc i) ≡ plain (edge_north (suc i)) (edge_east (suc i))
unfolding edge_of edge_north edge_east
edge-first i h = direction-first i h

pub edge-rises : (i j : ℕ) → 0 < i → i ≤ j → j ≤ 1024 → edge_east i ≤ edge_east j
unfolding edge_east
edge-rises i j l h k = never-falls i j h k

pub edge-falls : (i j : ℕ) → 0 < i → i ≤ j → j ≤ 1024 → edge_north j ≤ edge_north i
unfolding edge_north
edge-falls i j l h k = never-falls (1024 - j) (1024 - i) (omega arith) (omega arith)

pub east-positive : (j : ℕ) → 0 < j → j ≤ 1024 → 0 < edge_east j
unfolding edge_east
east-positive j h k = omega (arith, never-falls 1 j h k, sine-1)

pub north-positive : (j : ℕ) → 0 < j → j < 1024 → 0 < edge_north j
unfolding edge_north
north-positive j l h = omega (arith, never-falls 1 (1024 - j) (omega arith) (omega arith), sine-1)

pub north-most : (j : ℕ) → 0 < j → j ≤ 1024 → edge_north j ≤ 32768
unfolding edge_north
north-most j l h = omega (arith, sine-most (1024 - j) (omega arith))

pub east-most : (j : ℕ) → 0 < j → j ≤ 1024 → edge_east j ≤ 32768
unfolding edge_east
east-most j l h = omega (arith, sine-most j h)
