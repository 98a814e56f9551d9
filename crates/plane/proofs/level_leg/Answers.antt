-- `level_leg` gives the leg in north and east. Assumes nothing.
use mathlib.Core.Path.{◌∙◌}
use Rattle.course.proofs.VectorLaws.{carried}
use Rattle.plane.specs.Level.{minus, level_leg_of}
use Rattle.plane.proofs.LevelLaws.{level-leg-near}
use Rattle.plane.proofs.level_leg.Goals as goal

pub returns : goal.returns
unfolding level_leg_of
returns c =
    carried (c.vector_between.ensures.0 ∙ (λ i. minus (c.level-2.ensures.0 i) (c.level.ensures.0 i)))
    (level-leg-near c.args.a c.args.b c.requires.0 c.requires.1)
