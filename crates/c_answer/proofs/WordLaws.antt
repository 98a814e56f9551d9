-- How many words and numbers there are, and what a word keeps. Assumes nothing.
use mathlib.Core.Path.{◌≡◌, refl}
use Prim.Native.Nat.{ℕ, ◌<◌}
use native.Mathlib.Omega.{arith}
use lib.ListN.{length}
use Rattle.guidance.specs.declared.Command.{Command}
use Rattle.guidance.specs.declared.Command.TheVariants.{Line, Circle, Nothing}
use Rattle.manager.specs.declared.Answer.{Answer}
use Rattle.c_answer.specs.Words.{word_of, answer_words, command_numbers}

pub answer-length : (a : Answer) → length (answer_words a) ≡ 8
unfolding answer_words
answer-length a = refl

pub command-length : (c : Command) → length (command_numbers c) ≡ 6
unfolding command_numbers
command-length (Line start direction) = refl
command-length (Circle centre radius sense) = refl
command-length Nothing = refl

pub word_kept : (n : ℕ) → n < 4294967296 → word_of n ≡ n
unfolding word_of
word_kept n h = omega arith
