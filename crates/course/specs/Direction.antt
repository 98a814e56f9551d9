-- Clauses 2.2, 2.4, 2.5, 18.4: D(k), and what holds of the whole table. Assumes nothing.
use Rattle.std.specs.Prelude.{◌≡◌, ℕ, zero, suc, ◌+◌, ◌-◌, ◌/◌, ◌%◌, ◌≤◌, ◌<◌, pos, neg_ℤ, ◌≤ℤ◌}
use Rattle.course.specs.declared.Vector.{Vector}
use Rattle.course.specs.Table.{sine_of}
use Rattle.course.specs.Vectors.{plain, cross, squared_length}

-- 2.4: a quarter on, a direction is turned
unfoldable pub quarter : Vector → Vector
quarter v = record { north = neg_ℤ v.east; east = v.north }

unfoldable pub turned : ℕ → Vector → Vector
turned zero v = v
turned (suc q) v = quarter (turned q v)

-- 2.4: by the quarter that k lies in, so of every k
unfoldable pub direction_of : ℕ → Vector
direction_of k = turned (k / 1024) (plain (sine_of (1024 - k % 1024)) (sine_of (k % 1024)))

-- 2.5: no entry is less than the one before it
abbrev pub NeverFalls : Type 0
NeverFalls = (k : ℕ) → k < 1024 → sine_of k ≤ sine_of (suc k)

-- 2.5: the least that the cross product with the next direction is, of every k
abbrev pub Apart : Type 0
Apart = (k : ℕ) → pos 388000 ≤ℤ cross (direction_of k) (direction_of (suc k))

-- 2.2 and 2.5: the entries that are known, and what one computed test says of the whole table
pub record TableFacts : Type 0 where
  pub first : sine_of 0 ≡ 0
  pub middle : sine_of 512 ≡ 11585
  pub last : sine_of 1024 ≡ 16384
  pub rises : NeverFalls
  pub long : (k : ℕ) → pos (268435456 - 23171) ≤ℤ squared_length (direction_of k)
  pub short : (k : ℕ) → squared_length (direction_of k) ≤ℤ pos (268435456 + 23171)
  pub apart : Apart
  pub close : (k : ℕ) → cross (direction_of k) (direction_of (suc k)) ≤ℤ pos 435500
