-- No clause: a statement holds of every element of a list: of examples, each by itself. Assumes nothing.
use Rattle.std.specs.Prelude.{◌≡◌, List, [], ◌∷◌, ℕ}

abbrev pub All : {A : Type 0} → (A → Type 0) → List A → Type 0
All holds [] = Unit {0}
All holds (x ∷ xs) = holds x × All holds xs

-- it asks each element: a list whose first or last one is wrong does not pass
pub record AllMeans : Type 0 where
  pub right : All (λ (n : ℕ). n ≡ 5) (5 ∷ 5 ∷ [])
  pub first : All (λ (n : ℕ). n ≡ 5) (6 ∷ 5 ∷ []) → ⊥
  pub last : All (λ (n : ℕ). n ≡ 5) (5 ∷ 6 ∷ []) → ⊥
