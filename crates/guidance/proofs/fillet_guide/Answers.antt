-- `fillet_guide` gives the guidance of fillets. Assumes nothing.
use mathlib.Core.Path.{ap, ◌∙◌}
use borrow.Author.Tests.{eq-eqb, ne_eqb}
use Rattle.conditions.specs.Choose.{choose}
use Rattle.fillets.specs.declared.Corner.{Corner}
use Rattle.guidance.specs.Guide.{fillet_line, fillet_circle, fillet_guide}
use Rattle.guidance.proofs.fillet_guide.Goals as goal

pub returns-then-phase-eq1 : goal.returns-then-phase-eq1
unfolding fillet_guide choose
returns-then-phase-eq1 c =
    let s = c.args in
    let r = c.round_corner-corner.ensures.0 in
    let t = eq-eqb s.phase 1 c.if-phase-eq1.true in
    (c.fillet_line.ensures.0 ∙ rw t (ap (λ (k : Corner). fillet_line s.a s.b k s.at) r), c.fillet_line.ensures.1)

pub returns-else-phase-eq1 : goal.returns-else-phase-eq1
unfolding fillet_guide choose
returns-else-phase-eq1 c =
    let s = c.args in
    let r = c.round_corner-corner.ensures.0 in
    let t = ne_eqb s.phase 1 c.if-phase-eq1.false in
    (c.fillet_circle.ensures.0 ∙ rw t (ap (λ (k : Corner). fillet_circle s.b s.c s.radius k s.at) r), c.fillet_circle.ensures.1)
