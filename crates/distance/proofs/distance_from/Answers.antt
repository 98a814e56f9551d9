-- `distance_from` asks 14, and then adds up from the index on, with no table. Assumes nothing.
use mathlib.Core.Path.{sym, ap, ◌∙◌}
use Prim.Native.Nat.{ℕ}
use native.Mathlib.Omega.{arith}
use Rattle.std.proofs.Common.{Result, Ok, Err}
use Rattle.refusals.specs.declared.Refusal.{Refusal}
use Rattle.refusals.specs.Outcome.{check, refusal_of}
use Rattle.plan.specs.Lent.{lent_plan}
use Rattle.manager.specs.declared.State.{State}
use Rattle.manager.specs.State.{with_progress}
use Rattle.manager.proofs.StateLaws.{last-is}
use Rattle.distance.specs.Lengths.{entry_of}
use Rattle.distance.specs.Table.{distance_by}
use Rattle.distance.proofs.PassLaws.{sound-of}
use Rattle.distance.proofs.SummaryLaws.{distance-refused, distance-answered}
use Rattle.distance.proofs.distance_from.Goals as goal
use Rattle.distance.proofs.distance_from.Goals.{Start}

abbrev state : Start → State
state s = with_progress (lent_plan s.args.plan.now) s.args.progress

-- a refusal and a length as answers
abbrev refused_with : Refusal → Result ℕ Refusal
refused_with r = Err r

abbrev answered_with : ℕ → Result ℕ Refusal
answered_with n = Ok n

pub returns-then-not-valid : goal.returns-then-not-valid
unfolding distance_by refusal_of check
returns-then-not-valid c =
    ap refused_with c.failed.ensures.value
    ∙ ap distance_by (sym (distance-refused (state (goal.at.returns-then-not-valid c).Start) (sym c.valid.ensures.0 ∙ c.if-not-valid.true)))

pub measure-requires : goal.measure-requires
measure-requires c =
    let t = c.if-not-valid.false in
    let w = c.valid.ensures.1 t in
    record { sound = sound-of (state (goal.at.measure-requires c).Start) (sym c.valid.ensures.0 ∙ t); le_place = (omega (arith, w.least), omega (arith, w.least, w.most, last-is c.args.plan.now.head.count)) }

pub returns : goal.returns
unfolding distance_by entry_of
returns c =
    let e = distance-answered (state (goal.at.returns c).Start) (sym c.valid.ensures.0 ∙ c.if-not-valid.false) in
    ap answered_with c.measure.ensures.value ∙ ap distance_by (sym e)
