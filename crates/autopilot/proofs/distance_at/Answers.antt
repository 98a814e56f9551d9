-- `distance_at` lends the blocks of words that hold a state. Assumes nothing.
use mathlib.Core.Path.{sym, ap, ◌∙◌}
use Rattle.manager.specs.declared.State.{State}
use Rattle.distance.specs.Table.{distance_of, distance_by}
use Rattle.c_state.proofs.TakenLaws.{state-there}
use Rattle.autopilot.proofs.DistanceLaws.{distance-held, distance-unheld, refused-distance}
use Rattle.autopilot.proofs.distance_at.Goals as goal

pub returns : goal.returns
returns c = refused-distance _ _ c.failed.ensures.value (distance-unheld _ (sym c.holds_state.ensures.value ∙ c.if-holds_state.false))

pub plan_at-requires : goal.plan_at-requires
plan_at-requires c = (c.requires, sym c.holds_state.ensures.value ∙ c.if-holds_state.true)

pub progress_at-requires : goal.progress_at-requires
progress_at-requires c = (c.requires, sym c.holds_state.ensures.value ∙ c.if-holds_state.true)

pub returns-then-holds_state : goal.returns-then-holds_state
returns-then-holds_state c =
    let ws = c.args.words.now in
    let v = state-there ws c.plan_at.ensures.0 c.progress_at.ensures.0 in
    let h = sym c.holds_state.ensures.value ∙ c.if-holds_state.true in
    c.distance_from.ensures ∙ ap (λ (s : State). distance_by (distance_of s)) v ∙ ap distance_by (sym (distance-held ws h))
