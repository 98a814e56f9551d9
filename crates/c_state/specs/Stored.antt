-- Clauses 17.4 to 17.6, 18.10: a state as C sees it: signed words of 32 bits at fixed places, seven that hold numbers with no sign by their bits,
-- then a block for each kind of number of the plan. Assumes nothing.
use Rattle.std.specs.Prelude.{Bool, List, [], ◌∷◌, ◌++◌, map, ℕ, ◌+◌, ◌≤◌, ◌<◌, eqb, leb, ltb, ℤ, take, drop}
use Rattle.std.specs.Int.{w32}
use Rattle.std.proofs.Common.{SFits}
use Rattle.conditions.specs.Choose.{choose}
use Rattle.conditions.specs.Both.{both}
use Rattle.integers.specs.TwosComplement.{signed_of, unsigned_of}
use Rattle.refusals.specs.Numbers.{no_state}
use Rattle.refusals.specs.Outcome.{Outcome, good, check}
use Rattle.plan.specs.declared.Mode.{Mode}
use Rattle.plan.specs.declared.Mode.TheVariants.{Lines, Fillets, Dubins}
use Rattle.plan.specs.declared.Head.{Head}
use Rattle.plan.specs.declared.Plan.{Plan}
use Rattle.plan.specs.Limits.{most_points}
use Rattle.plan.specs.Places.{number_at, seen, numbers_of, Filled}
use Rattle.manager.specs.declared.Progress.{Progress}
use Rattle.manager.specs.declared.State.{State}
use Rattle.c_answer.specs.Words.{word_of, flag_of}

-- ---- the places
abbrev pub serial_place : ℕ
serial_place = 0

abbrev pub mode_place : ℕ
mode_place = 1

abbrev pub radius_place : ℕ
radius_place = 2

abbrev pub count_place : ℕ
count_place = 3

abbrev pub index_place : ℕ
index_place = 4

abbrev pub phase_place : ℕ
phase_place = 5

abbrev pub finished_place : ℕ
finished_place = 6

abbrev pub norths_place : ℕ
norths_place = 7

abbrev pub easts_place : ℕ
easts_place = norths_place + most_points

abbrev pub downs_place : ℕ
downs_place = easts_place + most_points

abbrev pub courses_place : ℕ
courses_place = downs_place + most_points

abbrev pub state_length : ℕ
state_length = courses_place + most_points

-- 0 lines, 1 fillets, 2 Dubins
unfoldable pub mode_word : Mode → ℕ
mode_word Lines = 0
mode_word Fillets = 1
mode_word Dubins = 2

unfoldable pub mode_at : ℕ → Mode
mode_at n = choose (eqb n 0) Lines (choose (eqb n 1) Fillets Dubins)

-- ---- into words
-- numbers with no sign
abbrev pub in_words : List ℕ → List ℤ
in_words ns = map signed_of ns

abbrev pub head_words : Head → List ℤ
head_words h = in_words (h.serial ∷ mode_word h.mode ∷ h.radius ∷ word_of h.count ∷ [])

abbrev pub progress_words : Progress → List ℤ
progress_words p = in_words (word_of p.index ∷ p.phase ∷ flag_of p.finished ∷ [])

unfoldable pub state_words : State → List ℤ
state_words s = head_words s.plan.head ++ (progress_words s.progress ++ numbers_of s.plan)

-- ---- out of words
-- a word's bits
unfoldable pub word_at : List ℤ → ℕ → ℕ
word_at ws i = unsigned_of (number_at ws i)

abbrev pub head_at : List ℤ → Head
head_at ws =
    record {
      serial = word_at ws serial_place;
      mode = mode_at (word_at ws mode_place);
      radius = word_at ws radius_place;
      count = word_at ws count_place;
    }

abbrev pub progress_at : List ℤ → Progress
progress_at ws = record { index = word_at ws index_place; phase = word_at ws phase_place; finished = eqb (word_at ws finished_place) 1 }

-- as many words as a plan has places
abbrev pub part : ℕ → List ℤ → List ℤ
part place ws = take most_points (drop place ws)

abbrev pub plan_at : List ℤ → Plan
plan_at ws = seen (head_at ws) (part norths_place ws) (part easts_place ws) (part downs_place ws) (part courses_place ws)

abbrev pub state_at : List ℤ → State
state_at ws = record { plan = plan_at ws; progress = progress_at ws }

-- 17.4: each word is one that a state can have
unfoldable pub holds_state : List ℤ → Bool
holds_state ws =
    both (leb (word_at ws mode_place) 2)
    (both (ltb (word_at ws radius_place) 65536) (both (ltb (word_at ws phase_place) 256) (leb (word_at ws finished_place) 1)))

-- the state that the words hold, or 14
unfoldable pub taken_of : List ℤ → Outcome State
taken_of ws = check (holds_state ws) no_state (good (state_at ws))

-- 17.5: the lengths of a state's words and of an answer, where that has to have so many words at least
unfoldable pub pair_fits : ℕ → ℕ → ℕ → Bool
pair_fits state answer least = both (leb state_length state) (leb least answer)

-- ---- what the laws are about: numbers of a slice of i32, from a place up to another
abbrev pub AreWords : ℕ → ℕ → List ℤ → Type 0
AreWords from to ws = (i : ℕ) → from ≤ i → i < to → SFits w32 (number_at ws i)

-- a state that words can keep: its small numbers fit the types of the code, count and index a word
pub record Storable (s : State) : Type 0 where
  pub serial : s.plan.head.serial < 4294967296
  pub radius : s.plan.head.radius < 65536
  pub count : s.plan.head.count < 4294967296
  pub index : s.progress.index < 4294967296
  pub phase : s.progress.phase < 256
  pub filled : Filled s.plan
