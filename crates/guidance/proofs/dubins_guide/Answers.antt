-- `dubins_guide` gives the guidance of Dubins legs. Assumes nothing.
use mathlib.Core.Path.{◌∙◌}
use borrow.Author.Tests.{eq-eqb, ne_eqb, lt-ltb, le-ltb}
use Rattle.conditions.specs.Choose.{choose}
use Rattle.guidance.specs.Guide.{circle_guide, dubins_guide}
use Rattle.guidance.proofs.dubins_guide.Goals as goal

pub returns-then-phase-eq3 : goal.returns-then-phase-eq3
unfolding dubins_guide choose
returns-then-phase-eq3 c =
    let s = c.args in
    let t = eq-eqb s.phase 3 c.if-phase-eq3.true in
    (rw t c.straight_guide.ensures.0, c.straight_guide.ensures.1)

pub returns-then-phase-lt3 : goal.returns-then-phase-lt3
unfolding dubins_guide choose
returns-then-phase-lt3 c =
    let s = c.args in
    let t = ne_eqb s.phase 3 c.if-phase-eq3.false in
    let u = lt-ltb s.phase 3 c.if-phase-lt3.true in
    (rw (t, u) (c.circle_guide.ensures.0 ∙ (λ i. circle_guide s.path.start s.ends.start s.ends.radius (c.starts_right.ensures i) (c.start_passed-passed.ensures i) s.at)), c.circle_guide.ensures.1)

pub returns : goal.returns
unfolding dubins_guide choose
returns c =
    let s = c.args in
    let t = ne_eqb s.phase 3 c.if-phase-eq3.false in
    let u = le-ltb s.phase 3 c.if-phase-lt3.false in
    (rw (t, u) (c.circle_guide-2.ensures.0 ∙ (λ i. circle_guide s.path.end s.ends.end s.ends.radius (c.ends_right.ensures i) (c.end_passed-passed.ensures i) s.at)), c.circle_guide-2.ensures.1)
