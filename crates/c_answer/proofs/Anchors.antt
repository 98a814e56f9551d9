-- The words of answers and the numbers of commands, computed from their definitions. Assumes nothing.
use mathlib.Core.Path.{refl}
use lib.Ieee.{of_bits}
use Rattle.conditions.specs.Choose.{choose}
use Rattle.c_answer.specs.Words.{word_of, flag_of, kind_of, sense_word, command_sense, answer_words, command_numbers}
use Rattle.c_answer.specs.Example.{AnswerExample, CommandExample}

pub answers : AnswerExample
unfolding choose word_of flag_of kind_of sense_word command_sense answer_words
answers = record { refused = refl; straight = refl; clockwise = refl; anticlockwise = refl }

pub commands : CommandExample
unfolding of_bits command_numbers
commands = record { straight = refl; round = refl; nothing = refl }
