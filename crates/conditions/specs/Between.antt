-- Clause 1.9: a natural lies in a range, its ends among it. Assumes nothing.
use Rattle.std.specs.Prelude.{Bool, ℕ, leb}
use Rattle.conditions.specs.Both.{both}

-- low ≤ x ≤ high
unfoldable pub between : ℕ → ℕ → ℕ → Bool
between low high x = both (leb low x) (leb x high)
