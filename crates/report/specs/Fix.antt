-- No clause: the line of a fix, which `fly` prints, of its answer's eight words and its command's six numbers (c_answer/specs/Words): its
-- number, the command with the bits of its floats and the heading, or the refusal, and what the next state is at. Assumes nothing.
use Rattle.std.specs.Prelude.{List, [], ◌++◌, ℕ, zero, suc, eqb, get_or, Float}
use Rattle.std.specs.Float.{nan}
use Rattle.conditions.specs.Choose.{choose}
use Rattle.text.specs.Ascii.{ascii}
use Rattle.text.specs.Parts.{count_text, float_text, refusal_text}
use Rattle.report.specs.Listing.{newline, space}

-- the first numbers, a space before each
unfoldable pub floats_to : List Float → ℕ → List ℕ
floats_to numbers zero = []
floats_to numbers (suc i) = floats_to numbers i ++ (space ++ float_text (get_or numbers i nan))

-- +1 for clockwise
unfoldable pub sense_text : ℕ → List ℕ
sense_text sense = choose (eqb sense 1) (ascii " sense 1") (ascii " sense -1")

-- by the kind of 17.11: a line, a circle, or no command
unfoldable pub command_text : ℕ → ℕ → List Float → List ℕ
command_text kind sense numbers =
    choose (eqb kind 1) (ascii " line" ++ floats_to numbers 6)
    (choose (eqb kind 2) (ascii " circle" ++ (floats_to numbers 4 ++ sense_text sense)) (ascii " nothing"))

abbrev pub answer_word : List ℕ → ℕ → ℕ
answer_word answer i = get_or answer i 0

unfoldable pub guided_text : List ℕ → List Float → List ℕ
guided_text answer numbers =
    choose (eqb (answer_word answer 0) 0)
    (command_text (answer_word answer 2) (answer_word answer 3) numbers ++ count_text (ascii " heading ") (answer_word answer 4))
    (space ++ refusal_text (answer_word answer 0) (answer_word answer 1))

unfoldable pub progress_text : List ℕ → List ℕ
progress_text answer =
    count_text (ascii " index ") (answer_word answer 5)
    ++ (count_text (ascii " phase ") (answer_word answer 6) ++ (count_text (ascii " finished ") (answer_word answer 7) ++ newline))

unfoldable pub fix_text : ℕ → List ℕ → List Float → List ℕ
fix_text number answer numbers = count_text (ascii "fix ") number ++ (guided_text answer numbers ++ progress_text answer)
