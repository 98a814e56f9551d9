-- `values_between` decides whether the values of a range of places lie between limits: none is over so far exactly where all so far lie
-- there. Assumes nothing.
use mir.Syntax.{w32}
use mir.Val.{to_z, of_z}
use mathlib.Core.Path.{◌≡◌, refl, sym, ◌∙◌, ap}
use mathlib.Core.Bool.{true, false}
use Prim.Native.Nat.{◌-◌}
use Rattle.conditions.proofs.Bools.{both-on}
use Rattle.refusals.specs.Sweep.{every}
use Rattle.refusals.proofs.SweepLaws.{passing-all}
use Rattle.plan.specs.Limits.{signed_between}
use Rattle.plan.specs.Places.{number_at}
use Rattle.plan.proofs.SweptLaws.{counted_next}
use borrow.Author.Rules.{rules}
use native.Mathlib.Omega.{arith}
use Rattle.plan.proofs.values_between.Goals as goal
use Rattle.plan.proofs.values_between.Goals.{then-not-signed_between, else-not-signed_between}
use Rattle.plan.proofs.values_between.Invariants.{fits}

pub loop-i-init : goal.loop-i-init
loop-i-init c = (omega arith, sym (both-on _ _ refl))

pub overflow_add-over : goal.overflow_add-over
overflow_add-over c = omega arith

pub loop-i-preserved : goal.loop-i-preserved
loop-i-preserved c =
    let s = c.args in
    let l = c.loop-i in
    let f = fits s.values.now s.low s.high in
    let whole = every f (s.to - s.from) s.from in
    let z : to_z w32 (of_z w32 (number_at s.values.now l.i)) ≡ number_at s.values.now l.i = search rules in
    let e = c.signed_between.ensures ∙ ap (signed_between s.low s.high) z in
    elim c.if-not-signed_between.branch [
      | then-not-signed_between w ↦ counted_next f whole l.over c.if-not-signed_between.over 1 s.to l.i w.over-is (omega arith) c.loop-i-test.true false (sym e ∙ w.if-not-signed_between.true) refl l.invariant
      | else-not-signed_between w ↦ counted_next f whole l.over c.if-not-signed_between.over 0 s.to l.i (omega (arith, w.over-is)) (omega arith) c.loop-i-test.true true (sym e ∙ w.if-not-signed_between.false) refl l.invariant
    ]

pub returns : goal.returns
returns c =
    let s = c.args in
    let l = c.loop-i in
    sym (l.invariant.1 ∙ passing-all (fits s.values.now s.low s.high) l.over s.to l.i c.loop-i-test.false)
