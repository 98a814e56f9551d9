-- Clause 17.12: a run that executes: fixes in plain lists, and the words and numbers of each answer in the caller's buffers. Assumes nothing.
use Rattle.std.specs.Prelude.{Bool, List, [], ◌∷◌, ◌++◌, ℕ, zero, suc, ◌+◌, ◌*◌, eqb, leb, length, get_or, Float}
use Rattle.std.specs.Float.{nan}
use Rattle.conditions.specs.Both.{both}
use Rattle.refusals.specs.Outcome.{Outcome, good, refused, check}
use Rattle.buffers.specs.Splice.{over}
use Rattle.units.specs.declared.Fix.{Fix}
use Rattle.manager.specs.declared.State.{State}
use Rattle.manager.specs.declared.Stepped.{Stepped}
use Rattle.refusals.specs.Numbers.{misfit}
use Rattle.c_answer.specs.Words.{answer_words, command_numbers}
use Rattle.flight.specs.declared.Flown.{Flown}
use Rattle.flight.specs.Run.{Named, run}

-- ---- the lists: a serial for each fix, and three numbers, north, east and down
abbrev pub fix_at : List Float → ℕ → Fix
fix_at fixes i = record { north = get_or fixes (3 * i) nan; east = get_or fixes (3 * i + 1) nan; down = get_or fixes (3 * i + 2) nan }

abbrev pub named_at : List ℕ → List Float → ℕ → Named
named_at serials fixes i = record { serial = get_or serials i 0; fix = fix_at fixes i }

-- k fixes from the i-th on, counted from 0
unfoldable pub named_from : List ℕ → List Float → ℕ → ℕ → List Named
named_from serials fixes zero i = []
named_from serials fixes (suc k) i = named_at serials fixes i ∷ named_from serials fixes k (i + 1)

unfoldable pub named_of : List ℕ → List Float → List Named
named_of serials fixes = named_from serials fixes (length serials) 0

-- ---- the buffers: eight words and six numbers for each fix
unfoldable pub answers_of : List Stepped → List ℕ
answers_of [] = []
answers_of (x ∷ xs) = answer_words x.answer ++ answers_of xs

unfoldable pub commands_of : List Stepped → List Float
commands_of [] = []
commands_of (x ∷ xs) = command_numbers x.answer.command ++ commands_of xs

-- the state after the last fix
unfoldable pub last_of : State → List Stepped → State
last_of s [] = s
last_of s (x ∷ xs) = last_of x.state xs

-- ---- lists that are equally long, and buffers with room for every answer
unfoldable pub fits_of : ℕ → ℕ → ℕ → ℕ → Bool
fits_of n fixes answers commands = both (eqb fixes (3 * n)) (both (leb (8 * n) answers) (leb (6 * n) commands))

-- the state that a run over the lists starts from: a given one, or what a reader loads
unfoldable pub begin_of : Outcome State → List ℕ → List Float → List ℕ → List Float → Outcome State
begin_of start serials fixes answers commands = check (fits_of (length serials) (length fixes) (length answers) (length commands)) misfit start

-- ---- what a run from there answers and leaves in the buffers; refused, nothing is written and the state is another one
unfoldable pub flown_by : State → Outcome State → List Named → Flown
flown_by other (good s) xs = record { refusal = 0; place = 0; state = last_of s (run s xs) }
flown_by other (refused number place) xs = record { refusal = number; place = place; state = other }

unfoldable pub answers_by : Outcome State → List Named → List ℕ → List ℕ
answers_by (good s) xs buffer = over (answers_of (run s xs)) buffer
answers_by (refused number place) xs buffer = buffer

unfoldable pub commands_by : Outcome State → List Named → List Float → List Float
commands_by (good s) xs buffer = over (commands_of (run s xs)) buffer
commands_by (refused number place) xs buffer = buffer

-- the same by the lists and buffers as they are lent
unfoldable pub flown_of : State → Outcome State → List ℕ → List Float → List ℕ → List Float → Flown
flown_of other start serials fixes answers commands = flown_by other (begin_of start serials fixes answers commands) (named_of serials fixes)

unfoldable pub answers_after : Outcome State → List ℕ → List Float → List ℕ → List Float → List ℕ
answers_after start serials fixes answers commands = answers_by (begin_of start serials fixes answers commands) (named_of serials fixes) answers

unfoldable pub commands_after : Outcome State → List ℕ → List Float → List ℕ → List Float → List Float
commands_after start serials fixes answers commands = commands_by (begin_of start serials fixes answers commands) (named_of serials fixes) commands
