-- `put_load` writes the line of a load. Assumes nothing.
use Rattle.text.proofs.AddedLaws.{joined}
use Rattle.report.specs.Answers.{load_text}
use Rattle.report.proofs.put_load.Goals as goal

pub returns : goal.returns
unfolding load_text
returns c =
    rw (← c.from.ensures) (joined c.text.ensures (joined c.refusal.ensures.wrote.0 c.byte.ensures))
