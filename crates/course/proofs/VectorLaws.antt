-- Equal and bounded vectors. Assumes nothing.
use mathlib.Core.Path.{◌≡◌, sym, subst}
use Prim.Native.Nat.{ℕ, ◌≤◌}
use lib.IntN.{ℤ}
use Rattle.integers.proofs.BoundLaws.{within-le}
use Rattle.course.specs.declared.Vector.{Vector}
use Rattle.course.specs.Vectors.{Near}

pub vector : {a b a' b' : ℤ} → a ≡ a' → b ≡ b' → ◌≡◌ {A = Vector} (record { north = a; east = b }) (record { north = a'; east = b' })
vector p q = cc

pub near_le : {m n : ℕ} {v : Vector} → m ≤ n → Near m v → Near n v
near_le l h = record { north = within-le l h.north; east = within-le l h.east }

-- an equation, and the bound of what it says
pub carried : {n : ℕ} {r v : Vector} → r ≡ v → Near n v → (r ≡ v) × Near n r
carried {n} e h = (e, subst (Near n) (sym e) h)
