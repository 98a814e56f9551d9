-- Clause 1.8: the root of a whole number. Assumes nothing.
use Rattle.std.specs.Prelude.{ℕ, zero, suc, ◌+◌, ◌*◌, ◌/◌, ◌≤◌, ◌<◌, leb}
use Rattle.conditions.specs.Choose.{choose}

-- 1.8: r² ≤ n < (r + 1)². What a reader has to believe, and what `root` promises of its answer. root_of n is the only such r: the law root-only of
-- proofs/RootLaws, by which the code's answer is known.
pub record IsRoot (n r : ℕ) : Type 0 where
  pub low : r * r ≤ n
  pub high : n < (r + 1) * (r + 1)

-- the root of n, where r is the root of n / 4
unfoldable pub next_root : ℕ → ℕ → ℕ
next_root n r = choose (leb ((2 * r + 1) * (2 * r + 1)) n) (2 * r + 1) (2 * r)

-- it computes, two binary digits of n at a time, of which there are at most k
unfoldable pub root_by : ℕ → ℕ → ℕ
root_by zero n = 0
root_by (suc k) zero = 0
root_by (suc k) (suc m) = next_root (suc m) (root_by k (suc m / 4))

unfoldable pub root_of : ℕ → ℕ
root_of n = root_by n n
