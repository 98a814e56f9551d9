-- `valid` decides refusal 14. Assumes nothing.
use mathlib.Core.Path.{sym, ◌∙◌}
use Rattle.conditions.proofs.Bools.{both-on, both-off}
use Rattle.plan.proofs.LimitLaws.{told}
use Rattle.manager.specs.State.{valid_of}
use Rattle.manager.proofs.StateLaws.{valid-means}
use Rattle.manager.proofs.valid.Goals as goal

pub returns-then-stands : goal.returns-then-stands
unfolding valid_of
returns-then-stands c =
    let h = sym c.stands.ensures.0 ∙ c.if-stands.true in
    told _ _ (valid-means _) (rw both-on c.placed.ensures)

pub returns-else-stands : goal.returns-else-stands
unfolding valid_of
returns-else-stands c =
    let h = sym c.stands.ensures.0 ∙ c.if-stands.false in
    told _ _ (valid-means _) (c.if-stands.false ∙ sym (both-off _ _ h))
