-- Clauses 17.4, 17.5, 17.18, 17.19: the calls for the distance to go: what each answers, and what the caller's memory holds afterwards, by the definitions of a table
-- and of the distance at a state. Assumes nothing.
use Rattle.std.specs.Prelude.{◌≡◌, Bool, true, List, [], ◌∷◌, ℕ, ℤ, length}
use Rattle.conditions.specs.Choose.{choose}
use Rattle.refusals.specs.Numbers.{misfit}
use Rattle.refusals.specs.declared.Refusal.{Refusal}
use Rattle.refusals.specs.Outcome.{Outcome, and_then, refusal_of, good, refused}
use Rattle.buffers.specs.Splice.{over}
use Rattle.manager.specs.declared.State.{State}
use Rattle.manager.specs.State.{valid_of}
use Rattle.c_answer.specs.Words.{word_of}
use Rattle.c_state.specs.Stored.{taken_of, pair_fits}
use Rattle.distance.specs.Table.{distances_of, table_of, distance_of}
use Rattle.autopilot.specs.Held.{Hold}
use Rattle.autopilot.specs.CallList.{Call, words_in_the_end}

-- ---- of the state that words hold, or 14
unfoldable pub distances_in : Outcome State → ℕ → Outcome (List ℕ)
distances_in o room = and_then o (λ (s : State). distances_of s room)

unfoldable pub distance_in : Outcome State → Outcome ℕ
distance_in o = and_then o distance_of

-- ---- 17.18: the table; refusal, place
abbrev pub distances_fit : List ℤ → List ℕ → Bool
distances_fit state answer = pair_fits (length state) (length answer) 2

abbrev pub distances_words : Refusal → List ℕ
distances_words r = r.number ∷ word_of r.place ∷ []

unfoldable pub distances_result : Bool → Outcome (List ℕ) → ℕ
distances_result fits o = choose fits (refusal_of o).number misfit

unfoldable pub distances_table : Bool → Outcome (List ℕ) → List ℕ → List ℕ
distances_table fits o table = choose fits (table_of o table) table

unfoldable pub distances_answer : Bool → Outcome (List ℕ) → List ℕ → List ℕ
distances_answer fits o answer = choose fits (over (distances_words (refusal_of o)) answer) answer

-- ---- 17.19: the distance at the state; refusal, place, decimetres
abbrev pub distance_fits : List ℤ → List ℕ → Bool
distance_fits state answer = pair_fits (length state) (length answer) 3

abbrev pub distance_words : Outcome ℕ → List ℕ
distance_words (good n) = 0 ∷ 0 ∷ n ∷ []
distance_words (refused number place) = number ∷ word_of place ∷ 0 ∷ []

unfoldable pub distance_result : Bool → Outcome ℕ → ℕ
distance_result fits o = choose fits (refusal_of o).number misfit

unfoldable pub distance_answer : Bool → Outcome ℕ → List ℕ → List ℕ
distance_answer fits o answer = choose fits (over (distance_words o) answer) answer

-- ---- 17.18: from words that hold a state that 14 does not refuse, every list of calls leaves words with the same table
abbrev pub TablesStay : Type 0
TablesStay = (ws : List ℤ) (s : State) → Hold ws s → valid_of s ≡ true → (cs : List Call) (room : ℕ)
    → distances_in (taken_of (words_in_the_end ws cs)) room ≡ distances_in (taken_of ws) room
