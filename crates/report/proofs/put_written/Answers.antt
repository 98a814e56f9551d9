-- `put_written` writes the line of a write. Assumes nothing.
use Rattle.text.proofs.AddedLaws.{joined}
use Rattle.report.specs.Answers.{written_text}
use Rattle.report.proofs.HoldsLaws.{answers-hold}
use Rattle.report.proofs.put_written.Goals as goal

pub returns : goal.returns
unfolding written_text
returns c =
    record {
      wrote = rw (← c.from.ensures)
          (joined c.text.ensures
          (joined c.refusal.ensures.wrote.0
          (joined c.count.ensures.wrote.0 (joined c.byte.ensures (joined c.bytes.ensures.wrote.0 c.byte-2.ensures)))));
      answers_hold = answers-hold;
    }
