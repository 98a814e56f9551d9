-- `put_strips` writes a line for each strip. Assumes nothing.
use mathlib.Core.Path.{refl, sym, ap, ◌∙◌, subst}
use Prim.Native.Nat.{◌+◌}
use native.Mathlib.Omega.{arith}
use borrow.Author.Rules.{rules}
use Rattle.plan.specs.declared.Plan.{Plan}
use Rattle.plan.specs.Places.{plan_point, plan_course}
use Rattle.strips.specs.Check.{strip_of, PlanStripThere}
use Rattle.strips.proofs.RowLaws.{row-there, row_of}
use Rattle.strip_report.proofs.StripListingLaws.{starts, goes_on}
use Rattle.strip_report.proofs.put_strips.Goals as goal

pub loop-i-init : goal.loop-i-init
loop-i-init c =
    starts c.args.state c.args.strips c.args.out.now c.requires.1

pub row_at-row-requires : goal.row_at-row-requires
row_at-row-requires c =
    let s = c.args.state in
    subst (λ (p : Plan). PlanStripThere p (c.loop-i.i + 1)) (sym c.lent-plan.ensures) (row-there s (search rules) refl (omega arith) (omega (arith, c.requires.0)))

pub loop-i-preserved : goal.loop-i-preserved
loop-i-preserved c =
    let s = c.args.state in
    let e = c.row_at-row.ensures ∙ ap (λ (p : Plan). strip_of (plan_point p) (plan_course p) (c.loop-i.i + 1)) c.lent-plan.ensures in
    goes_on s c.args.strips c.args.out.now c.requires.1 _ _ c.loop-i.invariant _ (omega arith)
    (e ∙ sym (row_of s refl (omega arith) (omega (arith, c.requires.0)))) c.put_strip.ensures
