-- Clauses 17.4, 17.5, 17.8, 17.13, 17.14, 17.16, 17.17: the desk's calls for C: what each answers, and what the caller's memory holds afterwards. A
-- note is a copy of its bytes and their number; a check is the refusal of a load and its place; a count is the number of notes; strips are
-- checked, and told one by one. Assumes nothing.
use Rattle.std.specs.Prelude.{Bool, List, [], ◌∷◌, ℕ, leb, ℤ, length}
use Rattle.conditions.specs.Choose.{choose}
use Rattle.refusals.specs.Numbers.{misfit}
use Rattle.refusals.specs.Outcome.{Outcome, good, refused}
use Rattle.conditions.specs.Both.{both}
use Rattle.buffers.specs.Splice.{over}
use Rattle.records.specs.Kinds.{note_row}
use Rattle.c_answer.specs.Words.{word_of}
use Rattle.wpl.specs.declared.Loaded.{Loaded}
use Rattle.manager.specs.declared.State.{State}
use Rattle.strips.specs.declared.Strip.{Strip}
use Rattle.strips.specs.Check.{Checked, refused_check, check_of, no_strip, strip_row}
use Rattle.c_state.specs.Stored.{pair_fits}

-- ---- any call
-- what it returns: the refusal that it tells, 0 for none, or 100 where a lent slice is too short
unfoldable pub call_result : Bool → ℕ → ℕ
call_result fits refusal = choose fits refusal misfit

-- an answer of at least so many words
unfoldable pub words_fit : ℕ → List ℕ → Bool
words_fit least answer = leb least (length answer)

-- the words at the front of the answer, and the rest of it as it was
unfoldable pub words_answer : Bool → List ℕ → List ℕ → List ℕ
words_answer fits words answer = choose fits (over words answer) answer

-- ---- a note
-- 4.4: the longest note
abbrev pub most_note : ℕ
most_note = note_row.high

-- the lengths of the buffer and of the answer: a buffer that has room for any note, so that whether it fits does not depend on the file
unfoldable pub note_fits : ℕ → ℕ → Bool
note_fits buffer answer = both (leb most_note buffer) (leb 1 answer)

-- the note's bytes at the front of the buffer, and the rest of it as it was
unfoldable pub note_buffer : Bool → List ℕ → List ℕ → List ℕ
note_buffer fits note buffer = choose fits (over note buffer) buffer

-- how many they are
unfoldable pub note_answer : Bool → List ℕ → List ℕ → List ℕ
note_answer fits note answer = words_answer fits (length note ∷ []) answer

-- ---- a check: the refusal of a load, 0 for none, and its place
abbrev pub check_words : Loaded → List ℕ
check_words x = x.refusal ∷ word_of x.place ∷ []

-- ---- 17.16: strips of the state that words hold, or 14: refusal, place, rule and how many there are
unfoldable pub check_in : Outcome State → Checked
check_in (good s) = check_of s
check_in (refused number place) = refused_check number place 0

abbrev pub strips_words : Checked → List ℕ
strips_words c = c.refusal ∷ word_of c.place ∷ c.rule ∷ word_of c.strips ∷ []

abbrev pub strips_fit : List ℤ → List ℕ → Bool
strips_fit state answer = pair_fits (length state) (length answer) 4

-- ---- 17.17: one strip by its number: number, course and length
unfoldable pub strip_row_in : Outcome State → ℕ → Strip
strip_row_in (good s) number = strip_row s number
strip_row_in (refused _ _) number = no_strip

abbrev pub strip_words : Strip → List ℕ
strip_words x = word_of x.number ∷ word_of x.course ∷ word_of x.length ∷ []

abbrev pub strip_fits : List ℤ → List ℕ → Bool
strip_fits state answer = pair_fits (length state) (length answer) 3
