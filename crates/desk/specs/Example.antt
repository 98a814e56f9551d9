-- Holds clauses 17.5, 17.8, 17.13, 17.14, 17.16, 17.17: the desk's calls in numbers: which slices are long enough, and what is in them afterwards. A
-- definition that is changed together with the code fails here. Assumes nothing.
use Rattle.std.specs.Prelude.{◌≡◌, true, false, List, [], ◌∷◌, ℕ, pos, replicate}
use Rattle.refusals.specs.Outcome.{refused}
use Rattle.wpl.specs.Load.{loaded_of}
use Rattle.strips.specs.Check.{refused_check}
use Rattle.desk.specs.Calls.{call_result, words_fit, words_answer, note_fits, note_buffer, note_answer, check_words, check_in, strips_words, strips_fit, strip_row_in, strip_words, strip_fits}

-- a note, the buffer and the answer
abbrev pub note : List ℕ
note = 65 ∷ 66 ∷ []

abbrev pub buffer : List ℕ
buffer = 1 ∷ 2 ∷ 3 ∷ []

abbrev pub answer : List ℕ
answer = 8 ∷ 9 ∷ 10 ∷ []

pub record NoteExample : Type 0 where
  -- 4.4: room for the longest note, and one byte less
  pub enough : note_fits 32 1 ≡ true
  pub narrow : note_fits 31 1 ≡ false
  pub unanswered : note_fits 32 0 ≡ false
  pub accepted : call_result true 0 ≡ 0
  pub shown : note_buffer true note buffer ≡ 65 ∷ 66 ∷ 3 ∷ []
  pub counted : note_answer true note answer ≡ 2 ∷ 9 ∷ 10 ∷ []
  -- 17.5: too short, so 100 and nothing written
  pub refused : call_result false 0 ≡ 100
  pub kept : (note_buffer false note buffer ≡ buffer) × (note_answer false note answer ≡ answer)

pub record WordsExample : Type 0 where
  -- a check takes two words, a count of notes one
  pub two : words_fit 2 (8 ∷ 9 ∷ []) ≡ true
  pub not-two : words_fit 2 (8 ∷ []) ≡ false
  pub one : words_fit 1 (8 ∷ []) ≡ true
  pub not-one : words_fit 1 [] ≡ false
  -- refused 6 at 25; four notes; and an answer that is too short
  pub number : call_result true (loaded_of (refused 6 25)).refusal ≡ 6
  pub checked : words_answer true (check_words (loaded_of (refused 6 25))) answer ≡ 6 ∷ 25 ∷ 10 ∷ []
  pub counted : words_answer true (4 ∷ []) answer ≡ 4 ∷ 9 ∷ 10 ∷ []
  pub kept : words_answer false (4 ∷ []) answer ≡ answer

pub record StripsExample : Type 0 where
  -- 263 words of a state and four of an answer; one less of either; and three for a strip
  pub enough : strips_fit (replicate 263 (pos 0)) (replicate 4 0) ≡ true
  pub shorter : strips_fit (replicate 262 (pos 0)) (replicate 4 0) ≡ false
  pub narrow : strips_fit (replicate 263 (pos 0)) (replicate 3 0) ≡ false
  pub three : strip_fits (replicate 263 (pos 0)) (replicate 3 0) ≡ true
  pub two : strip_fits (replicate 263 (pos 0)) (replicate 2 0) ≡ false
  -- the words of a check, where a strip is at fault and where none is, and those of a strip
  pub fault : strips_words (refused_check 18 2 3) ≡ 18 ∷ 2 ∷ 3 ∷ 0 ∷ []
  pub clean : strips_words (record { refusal = 0; place = 0; rule = 0; strips = 5 }) ≡ 0 ∷ 0 ∷ 0 ∷ 5 ∷ []
  pub row : strip_words (record { number = 4; course = 2048; length = 1414 }) ≡ 4 ∷ 2048 ∷ 1414 ∷ []
  -- words that hold no state
  pub unheld : check_in (refused 14 0) ≡ record { refusal = 14; place = 0; rule = 0; strips = 0 }
  pub rowless : strip_row_in (refused 14 0) 1 ≡ record { number = 0; course = 0; length = 0 }
