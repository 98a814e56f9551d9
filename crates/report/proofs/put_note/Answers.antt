-- `put_note` writes the line of a note. Assumes nothing.
use Rattle.text.proofs.AddedLaws.{joined}
use Rattle.report.specs.Answers.{note_text}
use Rattle.report.proofs.put_note.Goals as goal

pub returns : goal.returns
unfolding note_text
returns c =
    joined c.text.ensures (joined c.bytes.ensures.wrote.0 c.byte.ensures)
