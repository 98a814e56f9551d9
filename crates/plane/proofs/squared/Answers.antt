-- `squared` gives v·v. Assumes nothing.
use mathlib.Core.Path.{◌≡◌, ap, ◌∙◌}
use native.Mathlib.Omega.{arith}
use lib.IntN.{nat_abs}
use mir.Syntax.{w64}
use Rattle.integers.proofs.BoundLaws.{kept}
use Rattle.plane.specs.Level.{square_of}
use Rattle.plane.proofs.LevelLaws.{square_le}
use Rattle.plane.proofs.squared.Goals as goal

pub returns : goal.returns
unfolding square_of
returns c =
    let d = c.dot in
    let e : c.magnitude.result ≡ square_of c.args.v = c.magnitude.ensures ∙ ap nat_abs (kept w64 d.ensures.1 tt ∙ d.ensures.0) in
    (e, omega (arith, e, square_le c.args.v c.requires))
