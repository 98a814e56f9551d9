-- What `All` says of two numbers. Assumes nothing.
use mathlib.Core.Path.{◌≡◌, refl}
use Prim.Native.Nat.{ℕ}
use native.Mathlib.Omega.{arith}
use Rattle.conditions.specs.All.{AllMeans}

differ : ◌≡◌ {A = ℕ} 6 5 → ⊥
differ e = absurd (omega (arith, e))

pub all-means : AllMeans
all-means = record { right = (refl, (refl, tt)); first = λ h. differ h.0; last = λ h. differ h.1.0 }
