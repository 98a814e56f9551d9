-- `turn_at` gives the turn at a point. Assumes nothing.
use mathlib.Core.Path.{◌∙◌}
use Rattle.fillets.specs.Corners.{turn_between, corner_turn}
use Rattle.fillets.proofs.turn_at.Goals as goal

pub returns : goal.returns
unfolding corner_turn
returns c =
    (c.turn_between.ensures.0 ∙ (λ i. turn_between (c.level_leg-a.ensures.0 i) (c.level_leg-b.ensures.0 i)), c.turn_between.ensures.1)
