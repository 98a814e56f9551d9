-- `count` writes a word and a number. Assumes nothing.
use native.Mathlib.Omega.{arith}
use Rattle.text.specs.Parts.{count_text}
use Rattle.text.proofs.HoldsLaws.{decimal-holds}
use Rattle.text.proofs.AddedLaws.{joined}
use Rattle.text.proofs.Text.count.Goals as goal

pub returns : goal.returns
unfolding count_text
returns c =
    record {
      wrote = (
        joined c.text.ensures c.decimal.ensures.0,
        omega (arith, c.text.ensures.wrote.ends, c.decimal.ensures.1),
      );
      decimal_holds = decimal-holds;
    }
