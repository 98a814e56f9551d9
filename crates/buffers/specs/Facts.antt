-- Holds clauses 6.5, 17.5: what `over`, `splice` and `zeroed` come to, by one example of each. A definition that is changed together with the
-- code that it describes is refused here. Assumes nothing.
use Rattle.std.specs.Prelude.{◌≡◌, List, [], ◌∷◌, ℕ, ℤ, pos}
use Rattle.buffers.specs.Splice.{over, splice, zeroed}

pub record BufferFacts : Type 0 where
  pub front : ◌≡◌ {A = List ℕ} (over (1 ∷ 2 ∷ []) (7 ∷ 8 ∷ 9 ∷ [])) (1 ∷ 2 ∷ 9 ∷ [])
  pub inside : ◌≡◌ {A = List ℕ} (splice 1 (2 ∷ []) (7 ∷ 8 ∷ 9 ∷ [])) (7 ∷ 2 ∷ 9 ∷ [])
  pub zeros : ◌≡◌ {A = List ℤ} (zeroed (pos 8 ∷ pos 9 ∷ [])) (pos 0 ∷ pos 0 ∷ [])
