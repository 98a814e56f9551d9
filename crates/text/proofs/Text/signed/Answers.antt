-- `signed` writes a sign where there is one, and the digits. Assumes nothing.
use mathlib.Core.Path.{◌≡◌}
use native.Mathlib.Omega.{arith}
use lib.IntN.{pos, nat_abs}
use mir.Facts.{to_z-of_z}
use Rattle.integers.proofs.Tests.{lt_yes, lt_no}
use Rattle.text.proofs.DigitLaws.{signed-negative, signed-else}
use Rattle.text.proofs.HoldsLaws.{signed-holds}
use Rattle.text.proofs.AddedLaws.{joined}
use Rattle.text.proofs.Text.signed.Goals as goal
use Rattle.text.proofs.Text.signed.Goals.{then-x-lt0, else-x-lt0}

pub returns-clause-wrote : goal.returns-clause-wrote
returns-clause-wrote c =
    let x = c.args.x in
    let f = c.ranges.x in
    let e : c.magnitude-size.result ≡ nat_abs x = simp to_z-of_z at c.magnitude-size.ensures in
    elim c.if-x-lt0.branch [
      | then-x-lt0 w ↦ (
          let d = rw w.self-is at c.decimal.ensures in
          (rw (signed-negative x (lt_yes x (pos 0) (simp to_z-of_z at w.if-x-lt0.true)), ← e) (joined w.byte.ensures d.0), omega (arith, w.byte.ensures.wrote.ends, d.1))
          )
      | else-x-lt0 w ↦ (
          let d = rw w.self-is at c.decimal.ensures in
          (rw (signed-else x (lt_no x (pos 0) (simp to_z-of_z at w.if-x-lt0.false)), ← e) d.0, omega (arith, d.1))
          )
    ]

pub returns-clause-signed_holds : goal.returns-clause-signed_holds
returns-clause-signed_holds c = signed-holds
