-- `turn_between` gives the turn between two legs. Assumes nothing.
use mathlib.Core.Path.{◌∙◌}
use Rattle.fillets.specs.Corners.{lesser_turn, turn_between}
use Rattle.fillets.proofs.turn_between.Goals as goal

pub returns : goal.returns
unfolding turn_between
returns c =
    (c.lesser_turn.ensures.0 ∙ (λ i. lesser_turn (c.bearing-j.ensures.value i) (c.bearing-k.ensures.value i)), c.lesser_turn.ensures.1)
