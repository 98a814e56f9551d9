-- `leg_ended` decides the end of the last leg. Assumes nothing.
use mathlib.Core.Path.{ap, ◌∙◌}
use lib.IntN.{pos}
use lib.Signed.{le_z}
use mir.Syntax.{w64}
use Rattle.integers.proofs.BoundLaws.{kept}
use Rattle.plane.specs.Half.{dot3_of}
use Rattle.guidance.specs.Guide.{past_of, leg_ended}
use Rattle.guidance.proofs.leg_ended.Goals as goal

pub returns-in-Level : goal.returns-in-Level
unfolding leg_ended
returns-in-Level c = rw c.in-Level.is (c.past.ensures ∙ (λ i. past_of (c.level.ensures.0 i) (c.level_leg.ensures.0 i) c.args.at))

pub returns-in-InSpace : goal.returns-in-InSpace
unfolding leg_ended
returns-in-InSpace c =
    let d = c.dot3.ensures in
    let e = kept w64 d.1 tt ∙ d.0 ∙ (λ i. dot3_of (c.leg_between.ensures.0 i) (c.leg_between-in-InSpace.ensures.0 i)) in
    rw c.in-InSpace.is (ap (le_z (pos 0)) e)
