-- `put_fix` writes the parts of a fix's line. Assumes nothing.
use native.Mathlib.Omega.{arith}
use Rattle.text.proofs.AddedLaws.{joined}
use Rattle.report.specs.Fix.{fix_text}
use Rattle.report.proofs.HoldsLaws.{fix-holds}
use Rattle.report.proofs.put_fix.Goals as goal

pub returns : goal.returns
unfolding fix_text
returns c =
    record {
      wrote = (
        joined c.count.ensures.wrote.0 (joined c.put_guided.ensures.0 c.put_progress.ensures.0),
        omega (arith, c.count.ensures.wrote.1, c.put_guided.ensures.1, c.put_progress.ensures.1),
      );
      fix_line_holds = fix-holds;
    }
