-- The desk's calls in numbers, computed from their definitions. Assumes nothing.
use mathlib.Core.Path.{refl}
use Rattle.conditions.specs.Choose.{choose}
use Rattle.conditions.specs.Both.{both}
use Rattle.c_answer.specs.Words.{word_of}
use Rattle.c_state.specs.Stored.{pair_fits}
use Rattle.wpl.specs.Load.{loaded_of}
use Rattle.desk.specs.Calls.{call_result, words_fit, words_answer, note_fits, note_buffer, note_answer, check_in, strip_row_in}
use Rattle.desk.specs.Example.{NoteExample, WordsExample, StripsExample}

pub in-numbers : NoteExample
unfolding choose both call_result words_answer note_fits note_buffer note_answer
in-numbers =
    record {
      enough = refl;
      narrow = refl;
      unanswered = refl;
      accepted = refl;
      shown = refl;
      counted = refl;
      refused = refl;
      kept = (refl, refl);
    }

pub words-in-numbers : WordsExample
unfolding choose call_result words_fit words_answer loaded_of word_of
words-in-numbers =
    record { two = refl; not-two = refl; one = refl; not-one = refl; number = refl; checked = refl; counted = refl; kept = refl }

pub strips-in-numbers : StripsExample
unfolding both word_of pair_fits check_in strip_row_in
strips-in-numbers =
    record {
      enough = refl;
      shorter = refl;
      narrow = refl;
      three = refl;
      two = refl;
      fault = refl;
      clean = refl;
      row = refl;
      unheld = refl;
      rowless = refl;
    }
