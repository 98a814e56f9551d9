-- `far_apart` decides whether the ends are three radii apart. Assumes nothing.
use mathlib.Core.Path.{ap, ◌∙◌}
use native.Mathlib.Nat.{mul-le-mul}
use native.Mathlib.Omega.{arith}
use lib.Dec.{leb}
use Rattle.plane.specs.Level.{minus, square_of}
use Rattle.dubins.specs.Choice.{far_apart}
use Rattle.dubins.proofs.far_apart.Goals as goal

pub overflow_mul-result-2 : goal.overflow_mul-result-2
overflow_mul-result-2 c =
    omega (arith, mul-le-mul c.requires.1.1 c.requires.1.1)

pub returns : goal.returns
unfolding far_apart
returns c =
    ap (leb _) (c.squared.ensures.0 ∙ ap square_of (c.vector_between-d.ensures.0 ∙ (λ i. minus (c.level-2.ensures.0 i) (c.level.ensures.0 i))))
