-- `put_strip` writes a strip's number, course and length. Assumes nothing.
use native.Mathlib.Omega.{arith}
use Rattle.text.proofs.AddedLaws.{joined}
use Rattle.strip_report.specs.StripListing.{strip_line}
use Rattle.strip_report.proofs.put_strip.Goals as goal

pub returns : goal.returns
unfolding strip_line
returns c = (
  joined c.decimal.ensures.0 (joined c.count.ensures.wrote.0 (joined c.count-2.ensures.wrote.0 c.byte.ensures)),
  omega (arith, c.decimal.ensures.1, c.count.ensures.wrote.1, c.count-2.ensures.wrote.1, c.byte.ensures.wrote.ends),
)
