-- `start_passed` decides the end of phases 1 and 2. Assumes nothing.
use borrow.Author.Tests.{eq-eqb, ne_eqb}
use Rattle.conditions.specs.Choose.{choose}
use Rattle.guidance.specs.Guide.{start_passed}
use Rattle.guidance.proofs.start_passed.Goals as goal

pub returns-then-phase-eq1 : goal.returns-then-phase-eq1
unfolding start_passed choose
returns-then-phase-eq1 c =
    let t = eq-eqb c.args.phase 1 c.if-phase-eq1.true in
    rw t c.short.ensures

pub returns-else-phase-eq1 : goal.returns-else-phase-eq1
unfolding start_passed choose
returns-else-phase-eq1 c =
    let t = ne_eqb c.args.phase 1 c.if-phase-eq1.false in
    rw t c.reached.ensures
