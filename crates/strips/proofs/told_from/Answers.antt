-- `told_from` hands on the check, and gives the row of a strip that there is, and zeros else. Assumes nothing.
use mathlib.Core.Path.{refl, sym, ◌∙◌}
use Rattle.plan.specs.Lent.{lent_plan}
use Rattle.manager.specs.State.{with_progress}
use Rattle.strips.proofs.CheckLaws.{told}
use Rattle.strips.proofs.RowLaws.{row-there, row_of, row-past, row-none, row-refused}
use Rattle.strips.proofs.told_from.Goals as goal

pub row_at-strip-requires : goal.row_at-strip-requires
row_at-strip-requires c =
    let s = with_progress (lent_plan c.args.plan.now) c.args.progress in
    row-there s c.args.plan.now.long (told s c.in-Ok.ensures) c.if-number-ge1.true c.if-number-strips.true

pub returns-in-Ok-clause-strip_value : goal.returns-in-Ok-clause-strip_value
returns-in-Ok-clause-strip_value c =
    let s = with_progress (lent_plan c.args.plan.now) c.args.progress in
    c.row_at-strip.ensures ∙ sym (row_of s (told s c.in-Ok.ensures) c.if-number-ge1.true c.if-number-strips.true)

-- ---- past the last strip, before the first, and of a plan that is none
pub returns-in_default-clause-strip_value : goal.returns-in_default-clause-strip_value
returns-in_default-clause-strip_value c =
    let s = with_progress (lent_plan c.args.plan.now) c.args.progress in
    sym (row-past s (told s c.in-Ok.ensures) c.if-number-strips.false)

pub returns-in_default-2-clause-strip_value : goal.returns-in_default-2-clause-strip_value
returns-in_default-2-clause-strip_value c =
    sym (row-none (with_progress (lent_plan c.args.plan.now) c.args.progress) c.args.number c.if-number-ge1.false)

pub returns-in_default-3-clause-strip_value : goal.returns-in_default-3-clause-strip_value
returns-in_default-3-clause-strip_value c =
    let s = with_progress (lent_plan c.args.plan.now) c.args.progress in
    sym (row-refused s c.args.number (told s c.in_default.ensures) refl)
