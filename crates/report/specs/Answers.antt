-- No clause: the lines of a load, of a note and of a write, which `answers` prints. Refusal 0 stands for none. Assumes nothing.
use Rattle.std.specs.Prelude.{List, ◌++◌, ℕ}
use Rattle.text.specs.Ascii.{ascii}
use Rattle.text.specs.Parts.{count_text, bytes_text, refusal_text}
use Rattle.wpl.specs.declared.Written.{Written}
use Rattle.report.specs.Listing.{newline, space}

unfoldable pub load_text : ℕ → ℕ → List ℕ
load_text number place = ascii "load " ++ (refusal_text number place ++ newline)

unfoldable pub note_text : List ℕ → List ℕ
note_text note = ascii "note " ++ (bytes_text note ++ newline)

-- with the bytes of the room that was written into
unfoldable pub written_text : Written → List ℕ → List ℕ
written_text w room =
    ascii "write "
    ++ (refusal_text w.refusal w.place ++ (count_text (ascii " length ") w.length ++ (space ++ (bytes_text room ++ newline))))
