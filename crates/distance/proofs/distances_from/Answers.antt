-- `distances_from` asks 14, then 16, and then writes the entries. Assumes nothing.
use mathlib.Core.Path.{sym, ap, ◌∙◌}
use mathlib.Core.List.{List}
use Prim.Native.Nat.{ℕ}
use lib.ListN.{length}
use native.Mathlib.Omega.{arith}
use Rattle.std.proofs.Common.{Result, Err}
use Rattle.refusals.specs.declared.Refusal.{Refusal}
use Rattle.refusals.specs.Outcome.{Outcome, check, refusal_of}
use Rattle.refusals.specs.Sweep.{passed_of}
use Rattle.plan.specs.Lent.{lent_plan}
use Rattle.manager.specs.declared.State.{State}
use Rattle.manager.specs.State.{with_progress}
use Rattle.distance.specs.Table.{table_of}
use Rattle.distance.proofs.PassLaws.{sound-of}
use Rattle.distance.proofs.TableLaws.{told-all}
use Rattle.distance.proofs.SummaryLaws.{refused-state, refused-room, answered}
use Rattle.distance.proofs.distances_from.Goals as goal
use Rattle.distance.proofs.distances_from.Goals.{Start}

abbrev state : Start → State
state s = with_progress (lent_plan s.args.plan.now) s.args.progress

-- a refusal as an answer
abbrev refused_with : Refusal → Result Unit Refusal
refused_with r = Err r

pub returns-then-not-valid : goal.returns-then-not-valid
unfolding passed_of refusal_of check table_of
returns-then-not-valid c =
    let e = refused-state (state (goal.at.returns-then-not-valid c).Start) c.args.table.now (length c.args.table.now) (sym c.valid.ensures.0 ∙ c.if-not-valid.true) in
    record { value = ap refused_with c.failed.ensures.value ∙ ap passed_of (sym e); table_after = ap (λ (o : Outcome (List ℕ)). table_of o c.args.table.now) (sym e) }

pub returns-then-table-plan : goal.returns-then-table-plan
unfolding passed_of refusal_of check table_of
returns-then-table-plan c =
    let e = refused-room (state (goal.at.returns-then-table-plan c).Start) c.args.table.now (length c.args.table.now) (sym c.valid.ensures.0 ∙ c.if-not-valid.false) (omega (arith, c.if-table-plan.true)) in
    record { value = ap refused_with c.failed-then-table-plan.ensures.value ∙ ap passed_of (sym e); table_after = ap (λ (o : Outcome (List ℕ)). table_of o c.args.table.now) (sym e) }

pub measure-requires : goal.measure-requires
measure-requires c =
    let h = sound-of (state (goal.at.measure-requires c).Start) (sym c.valid.ensures.0 ∙ c.if-not-valid.false) in
    record { sound = h; le_place = (omega arith, omega (arith, h.stands.least)) }

pub returns : goal.returns
unfolding passed_of table_of
returns c =
    let e = answered (state (goal.at.returns c).Start) c.args.table.now (length c.args.table.now) (sym c.valid.ensures.0 ∙ c.if-not-valid.false) (omega (arith, c.if-table-plan.false)) in
    record { value = ap passed_of (sym e); table_after = c.measure.ensures.table_after (omega (arith, c.if-table-plan.false)) ∙ told-all _ _ ∙ ap (λ (o : Outcome (List ℕ)). table_of o c.args.table.now) (sym e) }
