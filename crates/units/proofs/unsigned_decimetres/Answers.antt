-- `unsigned_decimetres` gives the size of a float from its bits, to the nearest decimetre. Assumes nothing.
use mathlib.Core.Path.{sym}
use Prim.Native.Nat.{◌≤◌}
use native.Mathlib.Omega.{arith}
use Rattle.units.specs.Pattern.{field_of}
use Rattle.units.proofs.PatternLaws.{decimetres-small, decimetres-large, one-is, one-le, one-pos}
use Rattle.units.proofs.unsigned_decimetres.Goals as goal
use Rattle.units.proofs.unsigned_decimetres.Goals.{Else-field-lt120}

from : (c : Else-field-lt120) → 120 ≤ field_of c.args.bits
from c = omega (arith, c.if-field-lt120.false)

pub returns-then-field-lt120 : goal.returns-then-field-lt120
returns-then-field-lt120 c = sym (decimetres-small c.args.bits (omega (arith, c.if-field-lt120.true)))

pub overflow_add-result : goal.overflow_add-result
overflow_add-result c = omega (arith, one-le (field_of c.args.bits) (from c))

pub overflow_mul-result-2 : goal.overflow_mul-result-2
overflow_mul-result-2 c = omega (arith, one-le (field_of c.args.bits) (from c))

pub nonzero_div-result : goal.nonzero_div-result
nonzero_div-result c = omega (arith, one-pos (field_of c.args.bits) (from c))

pub returns : goal.returns
returns c =
    let b = c.args.bits in
    decimetres-large b _ _ _ (from c) c.requires (one-is (field_of b) (from c)) (omega arith) (omega arith)
