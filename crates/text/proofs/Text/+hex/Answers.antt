-- `hex` writes the last digit behind the others; the measure is how many there are. Assumes nothing.
use native.Mathlib.Omega.{arith}
use Rattle.text.proofs.DigitLaws.{hex-none, hex-more}
use Rattle.text.proofs.AddedLaws.{nothing, joined}
use Rattle.text.proofs.Text.+hex.Goals as goal

pub returns-then-count-eq0 : goal.returns-then-count-eq0
returns-then-count-eq0 t c = (rw (c.if-count-eq0.true, hex-none) (nothing c.args.self.now (omega (arith, c.requires))), omega arith)

pub returns : goal.returns
returns t c = (
  rw (hex-more c.args.count c.args.n (omega arith), ← c.hex_digit.ensures) (joined c.hex.ensures.0 c.byte.ensures),
  omega (arith, c.hex.ensures.1, c.byte.ensures.wrote.ends),
)
