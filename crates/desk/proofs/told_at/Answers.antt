-- `told_at` lends the blocks of words that hold a state. Assumes nothing.
use mathlib.Core.Path.{sym, ap, ◌∙◌}
use Rattle.conditions.specs.Choose.{choose}
use Rattle.manager.specs.declared.State.{State}
use Rattle.strips.specs.Check.{check_of, checked_as, strip_row}
use Rattle.c_state.proofs.TakenLaws.{state-there}
use Rattle.desk.proofs.StripsLaws.{check-held, check-unheld, row-held, row-unheld}
use Rattle.desk.proofs.told_at.Goals as goal

pub plan_at-requires : goal.plan_at-requires
plan_at-requires c = (c.requires, sym c.holds_state.ensures.value ∙ c.if-holds_state.true)

pub progress_at-requires : goal.progress_at-requires
progress_at-requires c = (c.requires, sym c.holds_state.ensures.value ∙ c.if-holds_state.true)

pub returns-then-holds_state : goal.returns-then-holds_state
returns-then-holds_state c =
    let a = c.args in
    let v = state-there a.words.now c.plan_at.ensures.0 c.progress_at.ensures.0 in
    let h = sym c.holds_state.ensures.value ∙ c.if-holds_state.true in record { checked_value = c.told_from.ensures.checked_value ∙ ap (λ (s : State). checked_as (check_of s)) v ∙ sym (ap checked_as (check-held _ h)); strip_value = c.told_from.ensures.strip_value ∙ ap (λ (s : State). strip_row s a.number) v ∙ sym (row-held _ _ h) }

pub returns : goal.returns
unfolding checked_as choose
returns c = let h = sym c.holds_state.ensures.value ∙ c.if-holds_state.false in record { checked_value = sym (ap checked_as (check-unheld _ h)); strip_value = sym (row-unheld _ _ h) }
