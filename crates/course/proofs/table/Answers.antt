-- `table` gives S: the prover works out the 1,025 values of the definition, and they are the constant. Assumes nothing.
use mathlib.Core.Path.{◌≡◌, ap, ◌∙◌}
use mathlib.Core.List.{List, [], ◌∷◌}
use Prim.Native.Nat.{ℕ, zero, suc, ◌+◌, ◌<◌}
use native.Mathlib.Omega.{arith}
use lib.ListN.{get_or}
use Rattle.course.specs.Table.{series, scaled_sine, sine_of, Sines}
use Rattle.course.proofs.table.Goals as goal

-- the values of f from i on, n of them
values : (ℕ → ℕ) → ℕ → ℕ → List ℕ
values f i zero = []
values f i (suc n) = f i ∷ values f (suc i) n

values-at : (f : ℕ → ℕ) (n i k : ℕ) → k < n → get_or (values f i n) k 0 ≡ f (i + k)
unfolding values
values-at f zero i k h = absurd (omega arith)
values-at f (suc n) i zero h = ap f {x = i} {y = i + 0} (omega arith)
values-at f (suc n) i (suc k) h = values-at f n (suc i) k (omega arith) ∙ ap f {x = suc i + k} {y = i + suc k} (omega arith)

sines : Sines (values sine_of 0 1025)
sines k h = values-at sine_of 1025 0 k (omega arith) ∙ ap sine_of {x = 0 + k} {y = k} (omega arith)

-- the constant's list is `values sine_of 0 1025` by computing
pub returns : goal.returns
unfolding values series scaled_sine sine_of
returns c = sines
