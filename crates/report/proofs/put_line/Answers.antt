-- `put_line` writes the parts of a line. Assumes nothing.
use native.Mathlib.Omega.{arith}
use Rattle.text.proofs.AddedLaws.{joined}
use Rattle.report.specs.Listing.{line_of}
use Rattle.report.proofs.put_line.Goals as goal

pub returns : goal.returns
unfolding line_of
returns c = (
  joined c.decimal.ensures.0 (joined c.put_point.ensures.0 (joined c.put_course.ensures.0 c.byte.ensures)),
  omega (arith, c.decimal.ensures.1, c.put_point.ensures.1, c.put_course.ensures.1, c.byte.ensures.wrote.ends),
)
