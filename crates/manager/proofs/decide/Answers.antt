-- `decide` answers one fix of any numbers, progress, serial and floats. Assumes nothing.
use borrow.Author.Tests.{eq-eqb, ne_eqb}
use Rattle.manager.specs.Step.{refuse_of, located_step}
use Rattle.manager.proofs.StepLaws.{step-13, step-14, step-15, step-located}
use Rattle.manager.proofs.decide.Goals as goal

pub returns-then-not-valid : goal.returns-then-not-valid
unfolding refuse_of
returns-then-not-valid c =
    let h = rw c.valid.ensures.0 at c.if-not-valid.true in
    rw (step-14, c.refuse.ensures)

pub returns-then-serial-plan : goal.returns-then-serial-plan
unfolding refuse_of
returns-then-serial-plan c =
    let h = rw c.valid.ensures.0 at c.if-not-valid.false in
    let k = ne_eqb _ _ c.if-serial-plan.true in
    rw (step-15, c.refuse-then-serial-plan.ensures)

pub returns-in-Some : goal.returns-in-Some
unfolding located_step
returns-in-Some c =
    let h = rw c.valid.ensures.0 at c.if-not-valid.false in
    let k = eq-eqb _ _ c.if-serial-plan.false in
    let e = rw c.locate.ensures.0 at c.in-Some.is in
    rw (step-located, e) c.moved.ensures

pub returns-in-None : goal.returns-in-None
unfolding refuse_of
returns-in-None c =
    let h = rw c.valid.ensures.0 at c.if-not-valid.false in
    let k = eq-eqb _ _ c.if-serial-plan.false in
    let e = rw c.locate.ensures.0 at c.in-None.is in
    rw (step-13, c.refuse-in-None.ensures)
