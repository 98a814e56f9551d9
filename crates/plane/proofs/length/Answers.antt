-- `length` gives the root of v·v. Assumes nothing.
use mathlib.Core.Path.{◌≡◌, ap, ◌∙◌}
use native.Mathlib.Omega.{arith}
use Rattle.integers.specs.Root.{root_of}
use Rattle.plane.specs.Level.{vector_length}
use Rattle.plane.proofs.LevelLaws.{length-le}
use Rattle.plane.proofs.length.Goals as goal

pub returns : goal.returns
unfolding vector_length
returns c =
    let e : c.root.result ≡ vector_length c.args.v = c.root.ensures.value ∙ ap root_of c.squared.ensures.0 in
    (e, omega (arith, e, length-le c.args.v c.requires))
