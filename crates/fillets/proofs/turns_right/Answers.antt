-- `turns_right` decides the sense of a corner. Assumes nothing.
use mathlib.Core.Path.{ap, ◌∙◌}
use lib.IntN.{pos}
use lib.Signed.{le_z}
use mir.Syntax.{w64}
use Rattle.integers.proofs.BoundLaws.{kept}
use Rattle.fillets.specs.Corners.{right_of}
use Rattle.fillets.proofs.turns_right.Goals as goal

pub returns : goal.returns
unfolding right_of
returns c = ap (le_z (pos 0)) (kept w64 c.across.ensures.1 tt ∙ c.across.ensures.0)
