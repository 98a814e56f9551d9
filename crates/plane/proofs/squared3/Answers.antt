-- `squared3` gives a·a in three dimensions. Assumes nothing.
use mathlib.Core.Path.{◌≡◌, ap, ◌∙◌}
use native.Mathlib.Omega.{arith}
use lib.IntN.{nat_abs}
use mir.Syntax.{w64}
use Rattle.integers.proofs.BoundLaws.{kept}
use Rattle.plane.specs.Half.{square3_of}
use Rattle.plane.proofs.LegLaws.{square3-le}
use Rattle.plane.proofs.squared3.Goals as goal

pub returns : goal.returns
unfolding square3_of
returns c =
    let d = c.dot3 in
    let e : c.magnitude.result ≡ square3_of c.args.a = c.magnitude.ensures ∙ ap nat_abs (kept w64 d.ensures.1 tt ∙ d.ensures.0) in
    (e, omega (arith, e, square3-le c.args.a c.requires))
