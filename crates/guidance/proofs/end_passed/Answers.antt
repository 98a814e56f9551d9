-- `end_passed` decides the end of phases 4 and 5. Assumes nothing.
use mathlib.Core.Path.{ap, ◌∙◌}
use native.Mathlib.Omega.{arith}
use borrow.Author.Tests.{eq-eqb, ne_eqb}
use Rattle.conditions.specs.Choose.{choose}
use Rattle.course.specs.declared.Vector.{Vector}
use Rattle.guidance.specs.Guide.{short_of, reached_of, end_passed}
use Rattle.guidance.proofs.end_passed.Goals as goal

pub returns-then-phase-eq4 : goal.returns-then-phase-eq4
unfolding end_passed choose
returns-then-phase-eq4 c =
    let s = c.args in
    let t = eq-eqb s.phase 4 (omega (arith, c.if-phase-eq4.true)) in
    rw t (c.short.ensures ∙ ap (λ (v : Vector). short_of v s.course s.at) c.level-place.ensures.0)

pub returns-else-phase-eq4 : goal.returns-else-phase-eq4
unfolding end_passed choose
returns-else-phase-eq4 c =
    let s = c.args in
    let t = ne_eqb s.phase 4 (λ e. c.if-phase-eq4.false (omega arith)) in
    rw t (c.reached.ensures ∙ ap (λ (v : Vector). reached_of v s.course s.at) c.level-place.ensures.0)
