-- Holds clause 17.11: an answer's words and a command's numbers, one by one, as the header places them. A definition that is changed together
-- with the code fails here. Assumes nothing.
use Rattle.std.specs.Prelude.{◌≡◌, true, false, [], ◌∷◌, ℕ, pos, negsuc, Float}
use Rattle.std.specs.Float.{binary32}
use Rattle.std.specs.Float.Ieee.{of_bits}
use Rattle.guidance.specs.declared.Metres.{Metres}
use Rattle.guidance.specs.declared.Command.{Command}
use Rattle.guidance.specs.declared.Command.TheVariants.{Line, Circle, Nothing}
use Rattle.manager.specs.declared.Answer.{Answer}
use Rattle.c_answer.specs.Words.{answer_words, command_numbers}

-- a float by its pattern, and three of them
abbrev pub float : ℕ → Float
float bits = of_bits binary32 bits

abbrev pub metres : ℕ → ℕ → ℕ → Metres
metres n e d = record { north = float n; east = float e; down = float d }

-- from (1, 2, 3) along (4, 5, 6); round (1, 2, 3) with radius 4, clockwise and the other way
abbrev pub line : Command
line = Line (metres 0x3f80_0000 0x4000_0000 0x4040_0000) (metres 0x4080_0000 0x40a0_0000 0x40c0_0000)

abbrev pub right : Command
right = Circle (metres 0x3f80_0000 0x4000_0000 0x4040_0000) (float 0x4080_0000) (pos 1)

abbrev pub left : Command
left = Circle (metres 0x3f80_0000 0x4000_0000 0x4040_0000) (float 0x4080_0000) (negsuc 0)

-- heading 1024 to point 6 in phase 5, finished
abbrev pub flying : Command → Answer
flying command = record { refusal = 0; place = 0; command = command; heading = 1024; index = 6; phase = 5; finished = true }

-- refused 12 at 7, with index 2 and phase 1
abbrev pub refusing : Answer
refusing = record { refusal = 12; place = 7; command = Nothing; heading = 0; index = 2; phase = 1; finished = false }

-- refusal, place, kind of command, sense, heading, index, phase, finished
pub record AnswerExample : Type 0 where
  pub refused : answer_words refusing ≡ 12 ∷ 7 ∷ 0 ∷ 0 ∷ 0 ∷ 2 ∷ 1 ∷ 0 ∷ []
  pub straight : answer_words (flying line) ≡ 0 ∷ 0 ∷ 1 ∷ 0 ∷ 1024 ∷ 6 ∷ 5 ∷ 1 ∷ []
  pub clockwise : answer_words (flying right) ≡ 0 ∷ 0 ∷ 2 ∷ 1 ∷ 1024 ∷ 6 ∷ 5 ∷ 1 ∷ []
  pub anticlockwise : answer_words (flying left) ≡ 0 ∷ 0 ∷ 2 ∷ 4294967295 ∷ 1024 ∷ 6 ∷ 5 ∷ 1 ∷ []

-- a line's start and direction, a circle's centre and radius, and zeros
pub record CommandExample : Type 0 where
  pub straight : command_numbers line ≡ float 0x3f80_0000 ∷ float 0x4000_0000 ∷ float 0x4040_0000 ∷ float 0x4080_0000 ∷ float 0x40a0_0000 ∷ float 0x40c0_0000 ∷ []
  pub round : command_numbers right ≡ float 0x3f80_0000 ∷ float 0x4000_0000 ∷ float 0x4040_0000 ∷ float 0x4080_0000 ∷ float 0 ∷ float 0 ∷ []
  pub nothing : command_numbers Nothing ≡ float 0 ∷ float 0 ∷ float 0 ∷ float 0 ∷ float 0 ∷ float 0 ∷ []
