-- `check_from` asks 14, then the mode and the number of points, then the strips. Assumes nothing.
use mathlib.Core.Path.{sym, ap, ◌∙◌}
use Rattle.std.specs.Result.{is_ok}
use Rattle.conditions.specs.Choose.{choose}
use Rattle.plan.specs.Lent.{lent_plan}
use Rattle.manager.specs.State.{with_progress}
use Rattle.strips.specs.Check.{checked_as}
use Rattle.strips.proofs.CheckLaws.{check-unsound, check-unpaired, check-paired, refused_with, fault-none, fault-found}
use Rattle.strips.proofs.ThereLaws.{strips-there}
use Rattle.strips.proofs.check_from.Goals as goal

pub returns-then-not-valid : goal.returns-then-not-valid
unfolding checked_as choose
returns-then-not-valid c =
    ap refused_with c.at_once.ensures ∙ sym (ap checked_as (check-unsound _ (sym c.valid.ensures.0 ∙ c.if-not-valid.true)))

pub returns-then-not-paired : goal.returns-then-not-paired
unfolding checked_as choose
returns-then-not-paired c =
    ap refused_with c.at_once-then-not-paired.ensures
    ∙ sym (ap checked_as (check-unpaired _ (sym c.valid.ensures.0 ∙ c.if-not-valid.false) (sym c.paired.ensures ∙ c.if-not-paired.true)))

pub first_fault-requires : goal.first_fault-requires
first_fault-requires c =
    let s = with_progress (lent_plan c.args.plan.now) c.args.progress in
    strips-there s (c.valid.ensures.1 (c.if-not-valid.false)) c.args.plan.now.long (sym c.paired.ensures ∙ c.if-not-paired.false)

pub returns-in-Ok : goal.returns-in-Ok
returns-in-Ok c =
    fault-none _ _ (sym (ap is_ok c.in-Ok.ensures))
    ∙ sym (ap checked_as (check-paired _ (sym c.valid.ensures.0 ∙ c.if-not-valid.false) (sym c.paired.ensures ∙ c.if-not-paired.false)))

pub returns-in-Err : goal.returns-in-Err
returns-in-Err c =
    fault-found _ _ c.in-Err.ensures
    ∙ sym (ap checked_as (check-paired _ (sym c.valid.ensures.0 ∙ c.if-not-valid.false) (sym c.paired.ensures ∙ c.if-not-paired.false)))
