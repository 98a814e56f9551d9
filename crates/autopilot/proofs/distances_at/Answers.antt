-- `distances_at` lends the blocks of words that hold a state. Assumes nothing.
use mathlib.Core.Path.{sym, ap, ◌∙◌}
use mathlib.Core.List.{List}
use Prim.Native.Nat.{ℕ}
use lib.ListN.{length}
use Rattle.refusals.specs.Outcome.{Outcome}
use Rattle.refusals.specs.Sweep.{passed_of}
use Rattle.manager.specs.declared.State.{State}
use Rattle.distance.specs.Table.{distances_of, table_of}
use Rattle.c_state.proofs.TakenLaws.{state-there}
use Rattle.autopilot.proofs.DistanceLaws.{distances-held, distances-unheld, refused-table}
use Rattle.autopilot.proofs.distances_at.Goals as goal

pub returns-then-not-holds_state : goal.returns-then-not-holds_state
unfolding table_of
returns-then-not-holds_state c =
    let a = c.args in
    let e = distances-unheld a.words.now (length a.table.now) (sym c.holds_state.ensures.value ∙ c.if-not-holds_state.true) in
    record { value = refused-table _ _ c.failed.ensures.value e; table_after = ap (λ (o : Outcome (List ℕ)). table_of o a.table.now) (sym e) }

pub plan_at-requires : goal.plan_at-requires
plan_at-requires c = (c.requires, sym c.holds_state.ensures.value ∙ c.if-not-holds_state.false)

pub progress_at-requires : goal.progress_at-requires
progress_at-requires c = (c.requires, sym c.holds_state.ensures.value ∙ c.if-not-holds_state.false)

pub returns : goal.returns
returns c =
    let a = c.args in
    let ws = a.words.now in
    let table = a.table.now in
    let v = state-there ws c.plan_at.ensures.0 c.progress_at.ensures.0 in
    let e = ap (λ (s : State). distances_of s (length table)) v ∙ sym (distances-held ws (length table) (sym c.holds_state.ensures.value ∙ c.if-not-holds_state.false)) in
    record { value = c.distances_from.ensures.value ∙ ap passed_of e; table_after = c.distances_from.ensures.table_after ∙ ap (λ (o : Outcome (List ℕ)). table_of o table) e }
