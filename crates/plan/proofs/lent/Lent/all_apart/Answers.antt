-- `all_apart` decides whether refusal 10 passes. Assumes nothing.
use mathlib.Core.Path.{refl, sym, ap, ◌∙◌}
use mathlib.Core.Bool.{true, false}
use Prim.Native.Nat.{◌-◌}
use native.Mathlib.Omega.{arith}
use Rattle.conditions.proofs.Bools.{both-on}
use Rattle.refusals.specs.Sweep.{every, noted}
use Rattle.std.specs.Option.{is_some}
use Rattle.refusals.proofs.SweepLaws.{passing-all, noted-apart, noted-passes}
use Rattle.plan.specs.Places.{plan_point}
use Rattle.plan.specs.Rules.{pair_at, pair_number, pairs_of}
use Rattle.plan.specs.Lent.{lent_plan}
use Rattle.plan.proofs.SweptLaws.{counted_next, every-good}
use Rattle.plan.proofs.lent.Lent.all_apart.Goals as goal
use Rattle.plan.proofs.lent.Lent.all_apart.Goals.{then-is_some, else-is_some}
use Rattle.plan.proofs.lent.Lent.all_apart.Invariants.{apart}

pub loop-i-init : goal.loop-i-init
loop-i-init c = (omega arith, sym (both-on _ _ refl))

pub loop-i-preserved : goal.loop-i-preserved
loop-i-preserved c =
    let p = lent_plan c.args.self.now in
    let l = c.loop-i in
    let f = apart p in
    let whole = every f (p.head.count - 1) 1 in
    let some = c.is_some.ensures ∙ ap is_some (c.pair_number.ensures ∙ (λ t. noted (pair_number (c.point_at.ensures t) (c.point_at-in-loop-i.ensures t)))) in (
      elim c.if-is_some.branch [ then-is_some w ↦ omega (arith, w.equal-is) | else-is_some w ↦ omega (arith, w.equal-is) ],
      elim c.if-is_some.branch [
        | then-is_some w ↦ (counted_next f whole l.equal c.if-is_some.equal 1 p.head.count l.i w.equal-is (omega arith) c.loop-i-test.true false (noted-apart (pair_at (plan_point p) l.i) (sym some ∙ w.if-is_some.true)) refl l.invariant).1
        | else-is_some w ↦ (counted_next f whole l.equal c.if-is_some.equal 0 p.head.count l.i (omega (arith, w.equal-is)) (omega arith) c.loop-i-test.true true (noted-passes (pair_at (plan_point p) l.i) (sym some ∙ w.if-is_some.false)) refl l.invariant).1
      ],
    )

pub returns : goal.returns
unfolding pairs_of
returns c =
    let p = lent_plan c.args.self.now in
    let l = c.loop-i in
    sym (passing-all (apart p) l.equal p.head.count l.i c.loop-i-test.false)
    ∙ sym l.invariant.1
    ∙ every-good (pair_at (plan_point p)) (p.head.count - 1) 1
