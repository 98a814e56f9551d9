-- `put_first_line` writes the first line with the number of strips. Assumes nothing.
use native.Mathlib.Omega.{arith}
use Rattle.text.proofs.AddedLaws.{joined}
use Rattle.strip_report.specs.StripListing.{strip_title}
use Rattle.strip_report.proofs.put_first_line.Goals as goal

pub returns : goal.returns
unfolding strip_title
returns c = (
  joined c.put_title.ensures.0 (joined c.count.ensures.wrote.0 c.byte.ensures),
  omega (arith, c.put_title.ensures.1, c.count.ensures.wrote.1, c.byte.ensures.wrote.ends),
)
