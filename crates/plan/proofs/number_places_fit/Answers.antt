-- `number_places_fit` decides whether the number of every place fits: the used ones, then the others. Assumes nothing.
use mathlib.Core.Path.{sym, ◌∙◌}
use Rattle.conditions.proofs.Bools.{both-on, both-off}
use Rattle.plan.proofs.StandLaws.{number-parts}
use Rattle.plan.proofs.number_places_fit.Goals as goal

pub returns-then-values_between : goal.returns-then-values_between
returns-then-values_between c =
    let s = c.args in
    let used = sym c.values_between.ensures ∙ c.if-values_between.true in
    c.values_between-then-values_between.ensures
    ∙ sym (number-parts s.values.now s.used s.low s.high c.requires.0 ∙ both-on _ _ used)

pub returns-else-values_between : goal.returns-else-values_between
returns-else-values_between c =
    let s = c.args in
    let used = sym c.values_between.ensures ∙ c.if-values_between.false in
    c.if-values_between.false
    ∙ sym (number-parts s.values.now s.used s.low s.high c.requires.0 ∙ both-off _ _ used)
