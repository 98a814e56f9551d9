-- Clauses 17.9, 17.11, 18.10: the number of the interface, an answer as eight words and a command as six numbers, as they are handed to a
-- caller's slices. Assumes nothing.
use Rattle.std.specs.Prelude.{Bool, true, false, List, [], ◌∷◌, ℕ, ◌%◌, ℤ, pos, Float}
use Rattle.std.specs.Int.Signed.{non_neg}
use Rattle.std.specs.Float.{fin}
use Rattle.conditions.specs.Choose.{choose}
use Rattle.guidance.specs.declared.Command.{Command}
use Rattle.guidance.specs.declared.Command.TheVariants.{Line, Circle, Nothing}
use Rattle.manager.specs.declared.Answer.{Answer}

-- the number of the interface for C, which grows whenever a word moves or a function changes
abbrev pub interface : ℕ
interface = 2

-- what a word holds of a number. Places, and the indices of states that are loaded or taken from words, are below 2^32.
unfoldable pub word_of : ℕ → ℕ
word_of n = n % 4294967296

unfoldable pub flag_of : Bool → ℕ
flag_of true = 1
flag_of false = 0

-- 0 none, 1 a line, 2 a circle
unfoldable pub kind_of : Command → ℕ
kind_of (Line start direction) = 1
kind_of (Circle centre radius sense) = 2
kind_of Nothing = 0

-- +1 for clockwise and −1 in two's complement for the other way round a circle; 0 where there is none
unfoldable pub sense_word : ℤ → ℕ
sense_word sense = choose (non_neg sense) 1 4294967295

unfoldable pub command_sense : Command → ℕ
command_sense (Line start direction) = 0
command_sense (Circle centre radius sense) = sense_word sense
command_sense Nothing = 0

unfoldable pub answer_words : Answer → List ℕ
answer_words a =
    a.refusal ∷ word_of a.place ∷ kind_of a.command ∷ command_sense a.command ∷ a.heading ∷ word_of a.index ∷ a.phase ∷ flag_of a.finished ∷ []

abbrev pub nought : Float
nought = fin false 0 (pos 0)

unfoldable pub command_numbers : Command → List Float
command_numbers (Line start direction) =
    start.north ∷ start.east ∷ start.down ∷ direction.north ∷ direction.east ∷ direction.down ∷ []
command_numbers (Circle centre radius sense) = centre.north ∷ centre.east ∷ centre.down ∷ radius ∷ nought ∷ nought ∷ []
command_numbers Nothing = nought ∷ nought ∷ nought ∷ nought ∷ nought ∷ nought ∷ []
