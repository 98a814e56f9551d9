-- `wrap` gives x modulo 4,096, which is the remainder that is not negative. Assumes nothing.
use mathlib.Core.Path.{◌∙◌, ap}
use lib.IntN.{nat_abs}
use mir.Syntax.{w64}
use mir.Val.{SFits}
use mir.Facts.{to_z-of_z}
use Rattle.integers.proofs.WrapLaws.{rem-is}
use Rattle.integers.proofs.wrap.Goals as goal

pub returns : goal.returns
returns c =
    let fx = c.ranges.x in
    let f : SFits w64 c.rem_euclid.result = record { sfits = c.rem_euclid.type_inv } in
    simp to_z-of_z (ap nat_abs (simp to_z-of_z at c.rem_euclid.ensures.value) ∙ rem-is c.args.x)
