-- `number` writes a word and a number with its sign. Assumes nothing.
use native.Mathlib.Omega.{arith}
use mir.Facts.{to_z-of_z}
use Rattle.text.specs.Parts.{number_text}
use Rattle.text.proofs.AddedLaws.{joined}
use Rattle.text.proofs.Text.number.Goals as goal

pub returns : goal.returns
unfolding number_text
returns c =
    let f = c.ranges.x in
    let w = simp to_z-of_z at c.signed.ensures.wrote.0 in
    (joined c.text.ensures w, omega (arith, c.text.ensures.wrote.ends, c.signed.ensures.wrote.1))
