-- `refusal` writes a number and a place. Assumes nothing.
use native.Mathlib.Omega.{arith}
use Rattle.text.specs.Parts.{refusal_text}
use Rattle.text.proofs.HoldsLaws.{refusal-holds}
use Rattle.text.proofs.AddedLaws.{joined}
use Rattle.text.proofs.Text.refusal.Goals as goal

pub returns : goal.returns
unfolding refusal_text
returns c =
    record {
      wrote = (
        joined c.count.ensures.wrote.0 c.count-2.ensures.wrote.0,
        omega (arith, c.count.ensures.wrote.1, c.count-2.ensures.wrote.1),
      );
      refusal_holds = refusal-holds;
    }
