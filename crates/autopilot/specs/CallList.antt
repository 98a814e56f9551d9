-- Clause 17.7: lists of calls on a state's words: what each replies, and what the words are in the end. From words that hold a state both are
-- those of the run of that state. Assumes nothing.
use Rattle.std.specs.Prelude.{◌≡◌, List, [], ◌∷◌, ℕ, ℤ, Float}
use Rattle.refusals.specs.Outcome.{Outcome}
use Rattle.units.specs.declared.Fix.{Fix}
use Rattle.manager.specs.declared.State.{State}
use Rattle.manager.specs.declared.Stepped.{Stepped}
use Rattle.c_answer.specs.Words.{answer_words, command_numbers}
use Rattle.c_state.specs.Stored.{taken_of}
use Rattle.wpl.specs.Write.{write_of}
use Rattle.flight.specs.Run.{Named, run}
use Rattle.flight.specs.Flight.{last_of}
use Rattle.autopilot.specs.Calls.{fix_number, fix_words, fix_numbers, fix_next, write_from}
use Rattle.autopilot.specs.Held.{Hold}

-- a call on a state's words, with slices that are long enough
pub data Call : Type 0 where
  fix : (serial : ℕ) (position : Fix) → Call
  write : (version room : ℕ) → Call

-- what it answers
pub data Reply : Type 0 where
  fixed : (result : ℕ) (answer : List ℕ) (command : List Float) → Reply
  written : (file : Outcome (List ℕ)) → Reply

-- ---- by the words
unfoldable pub reply_to : List ℤ → Call → Reply
reply_to ws (fix serial position) =
    fixed (fix_number (taken_of ws) serial position) (fix_words (taken_of ws) ws serial position) (fix_numbers (taken_of ws) serial position)
reply_to ws (write version room) = written (write_from ws version room)

-- the words after it
unfoldable pub words_after : List ℤ → Call → List ℤ
words_after ws (fix serial position) = fix_next (taken_of ws) ws serial position
words_after ws (write version room) = ws

-- the replies to a list of calls, and the words in the end
unfoldable pub replies : List ℤ → List Call → List Reply
replies ws [] = []
replies ws (c ∷ cs) = reply_to ws c ∷ replies (words_after ws c) cs

unfoldable pub words_in_the_end : List ℤ → List Call → List ℤ
words_in_the_end ws [] = ws
words_in_the_end ws (c ∷ cs) = words_in_the_end (words_after ws c) cs

-- ---- by a run
-- the fixes among calls
unfoldable pub fixes_of : List Call → List Named
fixes_of [] = []
fixes_of (fix serial position ∷ cs) = record { serial = serial; fix = position } ∷ fixes_of cs
fixes_of (write version room ∷ cs) = fixes_of cs

-- a fix replies with its step, a write is of the state that was reached
unfoldable pub replies_of : State → List Call → List Stepped → List Reply
replies_of s [] steps = []
replies_of s (write version room ∷ cs) steps = written (write_of s version room) ∷ replies_of s cs steps
replies_of s (fix serial position ∷ cs) [] = []
replies_of s (fix serial position ∷ cs) (x ∷ steps) =
    fixed x.answer.refusal (answer_words x.answer) (command_numbers x.answer.command) ∷ replies_of x.state cs steps

pub record CallsRun : Type 0 where
  pub replied : (ws : List ℤ) (s : State) → Hold ws s → (cs : List Call) → replies ws cs ≡ replies_of s cs (run s (fixes_of cs))
  pub ended : (ws : List ℤ) (s : State) → Hold ws s → (cs : List Call) → Hold (words_in_the_end ws cs) (last_of s (run s (fixes_of cs)))
