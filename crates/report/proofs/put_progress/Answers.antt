-- `put_progress` writes what the next state is at, and ends the line. Assumes nothing.
use native.Mathlib.Omega.{arith}
use Rattle.text.proofs.AddedLaws.{joined}
use Rattle.report.specs.Fix.{progress_text}
use Rattle.report.proofs.put_progress.Goals as goal

pub returns : goal.returns
unfolding progress_text
returns c = (
  joined c.put_word.ensures.0 (joined c.put_word-2.ensures.0 (joined c.put_word-3.ensures.0 c.byte.ensures)),
  omega (arith, c.put_word.ensures.1, c.put_word-2.ensures.1, c.put_word-3.ensures.1, c.byte.ensures.wrote.ends),
)
