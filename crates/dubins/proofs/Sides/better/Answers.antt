-- `Sides::better` gives the shorter of what was found before and a case, whether or not the case is worked out. Assumes nothing.
use mathlib.Core.Path.{◌≡◌, sym, ap, ◌∙◌}
use mathlib.Core.Bool.{true}
use Rattle.dubins.specs.declared.Circles.{Circles}
use Rattle.dubins.specs.Cases.{tangent_exists, case_exists}
use Rattle.dubins.specs.Choice.{shorter_of}
use Rattle.dubins.specs.Ways.{found_by}
use Rattle.dubins.proofs.ShortestLaws.{case-there, case-absent}
use Rattle.dubins.proofs.LeastLaws.{not-shorter}
use Rattle.dubins.proofs.Sides.better.Goals as goal
use Rattle.dubins.proofs.Sides.better.Goals.{After-tangent_exists, Else-not-tangent_exists}

-- the test is the definition's
tested : (c : After-tangent_exists) → let s = c.args in c.tangent_exists.result ≡ case_exists s.self.ends s.case
tested c =
    let s = c.args in
    c.tangent_exists.ensures ∙ ap (λ (k : Circles). tangent_exists s.case s.self.ends.radius k.v) c.circles-circles.ensures.0

-- the case exists
there : (i : Else-not-tangent_exists) → let s = i.args in case_exists s.self.ends s.case ≡ true
there i = sym (tested i.before) ∙ i.if-not-tangent_exists.false

-- it does not
pub returns-then-not-tangent_exists : goal.returns-then-not-tangent_exists
unfolding shorter_of
returns-then-not-tangent_exists c =
    let e = case-absent c.args.self.ends c.args.case (sym (tested c.before) ∙ c.if-not-tangent_exists.true) in
    (simp e, c.requires)

-- it is no shorter
pub returns-then-no_shorter : goal.returns-then-no_shorter
returns-then-no_shorter c =
    let a = c.args in
    let e = a.self.ends in
    let h = c.no_shorter.ensures c.if-no_shorter.true in
    (sym (not-shorter e a.case c.length_before.result c.circles-circles.result (there c.before.before.before) c.circles-circles.ensures.0 h.0 h.1 (found_by e.radius a.best) (c.length_before.ensures e.radius)), c.requires)

pub returns : goal.returns
unfolding found_by
returns c =
    let a = c.args in
    let ends = a.self.ends in
    let e = case-there ends a.case c.circles-circles.result c.straight-s.result c.straight_course-course.result (there c.before.before.before.before.before.before.before) c.circles-circles.ensures.0 c.straight-s.ensures.0 c.straight_course-course.ensures.0 in
    (c.shorter.ensures.0 ends.radius ∙ simp (c.way_of.ensures.0, e), c.shorter.ensures.1)
