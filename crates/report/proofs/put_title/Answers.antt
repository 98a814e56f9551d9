-- `put_title` writes the parts of the title. Assumes nothing.
use native.Mathlib.Omega.{arith}
use Rattle.text.proofs.AddedLaws.{joined}
use Rattle.report.specs.Listing.{title_of}
use Rattle.report.proofs.put_title.Goals as goal

pub returns : goal.returns
unfolding title_of
returns c = rw (← c.from.ensures, ← c.from-2.ensures) (
  joined c.count.ensures.wrote.0
      (joined c.count-2.ensures.wrote.0
      (joined c.text.ensures
      (joined c.put_mode.ensures.0 c.count-3.ensures.wrote.0))),
  omega (
    arith,
    c.count.ensures.wrote.1,
    c.count-2.ensures.wrote.1,
    c.text.ensures.wrote.ends,
    c.put_mode.ensures.1,
    c.count-3.ensures.wrote.1,
  ),
)
