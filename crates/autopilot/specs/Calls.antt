-- Clauses 17.1 to 17.5: the calls of an autopilot: what each answers, and what the caller's memory holds afterwards, by the definitions of a
-- load, a fix and a write. Assumes nothing.
use Rattle.std.specs.Prelude.{Bool, List, [], ◌∷◌, ℕ, leb, ℤ, length, Float}
use Rattle.conditions.specs.Choose.{choose}
use Rattle.conditions.specs.Both.{both}
use Rattle.refusals.specs.Outcome.{Outcome, good, refused, and_then}
use Rattle.buffers.specs.Splice.{over}
use Rattle.units.specs.declared.Fix.{Fix}
use Rattle.guidance.specs.declared.Command.TheVariants.{Nothing}
use Rattle.manager.specs.declared.State.{State}
use Rattle.manager.specs.Step.{step_of}
use Rattle.refusals.specs.Numbers.{misfit}
use Rattle.c_answer.specs.Words.{word_of, answer_words, command_numbers}
use Rattle.c_state.specs.Stored.{index_place, phase_place, finished_place, state_words, word_at, taken_of, pair_fits}
use Rattle.wpl.specs.declared.Loaded.{Loaded}
use Rattle.wpl.specs.declared.Written.{Written}
use Rattle.wpl.specs.Write.{write_of, written_of, buffer_of}

-- ---- 17.5: which lengths are enough. Where one is not, the call answers 100 and leaves everything as it was.
abbrev pub load_fits : List ℤ → List ℕ → Bool
load_fits state answer = pair_fits (length state) (length answer) 2

unfoldable pub fix_fits : List ℤ → List ℕ → List Float → Bool
fix_fits state answer command = both (pair_fits (length state) (length answer) 8) (leb 6 (length command))

abbrev pub write_fits : List ℤ → List ℕ → Bool
write_fits state answer = pair_fits (length state) (length answer) 3

-- ---- 17.1: load
abbrev pub load_words : Loaded → List ℕ
load_words x = x.refusal ∷ word_of x.place ∷ []

unfoldable pub load_result : Bool → Loaded → ℕ
load_result fits x = choose fits x.refusal misfit

unfoldable pub load_state : Bool → Loaded → List ℤ → List ℤ
load_state fits x state = choose fits (over (state_words x.state) state) state

unfoldable pub load_answer : Bool → Loaded → List ℕ → List ℕ
load_answer fits x answer = choose fits (over (load_words x) answer) answer

-- ---- 17.2: fix
-- of words that hold no state: a refusal, with the words of index, phase and finished as they are
abbrev pub refused_words : ℕ → ℕ → List ℤ → List ℕ
refused_words number place ws = number ∷ place ∷ 0 ∷ 0 ∷ 0 ∷ word_at ws index_place ∷ word_at ws phase_place ∷ word_at ws finished_place ∷ []

-- what the words answer to a fix: a step of the state that they hold, or 14
unfoldable pub fix_words : Outcome State → List ℤ → ℕ → Fix → List ℕ
fix_words (good s) ws serial fix = answer_words (step_of s serial fix).answer
fix_words (refused number place) ws serial fix = refused_words number place ws

unfoldable pub fix_numbers : Outcome State → ℕ → Fix → List Float
fix_numbers (good s) serial fix = command_numbers (step_of s serial fix).answer.command
fix_numbers (refused number place) serial fix = command_numbers Nothing

unfoldable pub fix_number : Outcome State → ℕ → Fix → ℕ
fix_number (good s) serial fix = (step_of s serial fix).answer.refusal
fix_number (refused number place) serial fix = number

-- a refused fix gives back its state, so that its words are what they were
unfoldable pub fix_next : Outcome State → List ℤ → ℕ → Fix → List ℤ
fix_next (good s) ws serial fix = over (state_words (step_of s serial fix).state) ws
fix_next (refused number place) ws serial fix = ws

unfoldable pub fix_result : Bool → List ℤ → ℕ → Fix → ℕ
fix_result fits ws serial fix = choose fits (fix_number (taken_of ws) serial fix) misfit

unfoldable pub fix_state : Bool → List ℤ → ℕ → Fix → List ℤ
fix_state fits ws serial fix = choose fits (fix_next (taken_of ws) ws serial fix) ws

unfoldable pub fix_answer : Bool → List ℤ → ℕ → Fix → List ℕ → List ℕ
fix_answer fits ws serial fix answer = choose fits (over (fix_words (taken_of ws) ws serial fix) answer) answer

unfoldable pub fix_command : Bool → List ℤ → ℕ → Fix → List Float → List Float
fix_command fits ws serial fix command = choose fits (over (fix_numbers (taken_of ws) serial fix) command) command

-- ---- 17.3: write; refusal, place, length
unfoldable pub write_from : List ℤ → ℕ → ℕ → Outcome (List ℕ)
write_from ws version room = and_then (taken_of ws) (λ (s : State). write_of s version room)

abbrev pub write_words : Written → List ℕ
write_words x = x.refusal ∷ word_of x.place ∷ word_of x.length ∷ []

unfoldable pub write_result : Bool → Outcome (List ℕ) → ℕ
write_result fits o = choose fits (written_of o).refusal misfit

unfoldable pub write_file : Bool → Outcome (List ℕ) → List ℕ → List ℕ
write_file fits o file = choose fits (buffer_of o file) file

unfoldable pub write_answer : Bool → Outcome (List ℕ) → List ℕ → List ℕ
write_answer fits o answer = choose fits (over (write_words (written_of o)) answer) answer
