-- `decimal` writes the last digit behind those of a tenth of the number; the measure is the number. Assumes nothing.
use native.Mathlib.Omega.{arith}
use lib.ListN.{length}
use Prim.Native.Nat.{◌≤◌, ◌/◌}
use Rattle.text.specs.Digits.{decimal_of}
use Rattle.text.proofs.DigitLaws.{decimal-low, decimal-more, decimal-length}
use Rattle.text.proofs.AddedLaws.{joined}
use Rattle.text.proofs.Text.+decimal.Goals as goal

pub returns-then-n-lt10 : goal.returns-then-n-lt10
returns-then-n-lt10 t c = (rw (decimal-low c.args.n (omega arith)) c.byte.ensures, omega (arith, c.byte.ensures.wrote.ends))

pub byte-requires-2 : goal.byte-requires-2
byte-requires-2 t c =
    let l : length (decimal_of (c.args.n / 10)) ≤ 19 = decimal-length 18 (c.args.n / 10) (omega arith) in
    omega (arith, l, c.decimal.ensures.0.wrote.ends, c.decimal.ensures.0.kept, c.requires)

pub returns : goal.returns
returns t c =
    let l : length (decimal_of (c.args.n / 10)) ≤ 19 = decimal-length 18 (c.args.n / 10) (omega arith) in (
      rw (decimal-more c.args.n (omega arith)) (joined c.decimal.ensures.0 c.byte-2.ensures),
      omega (arith, l, c.decimal.ensures.0.wrote.ends, c.byte-2.ensures.wrote.ends),
    )
