-- `Sides::better_length` gives the lesser of a length and that of a case, whether or not the case is worked out. Assumes nothing.
use Rattle.std.proofs.Common.{Option}
use mathlib.Core.Path.{◌≡◌, sym, ap, ◌∙◌, subst}
use mathlib.Core.Bool.{true}
use Prim.Native.Nat.{ℕ}
use native.Mathlib.Omega.{arith}
use Rattle.dubins.specs.declared.Circles.{Circles}
use Rattle.dubins.specs.declared.Path.{Path}
use Rattle.dubins.specs.Cases.{tangent_exists, case_exists, path_of}
use Rattle.dubins.specs.Choice.{case_path, shorter_of}
use Rattle.dubins.specs.Ways.{Measures}
use Rattle.dubins.proofs.ShortestLaws.{measures-absent, measures-lesser, case-there, case-absent}
use Rattle.dubins.proofs.LeastLaws.{not-shorter}
use Rattle.dubins.proofs.Sides.better_length.Goals as goal
use Rattle.dubins.proofs.Sides.better_length.Goals.{After-tangent_exists, Else-not-tangent_exists}

-- the test is the definition's
tested : (c : After-tangent_exists) → let s = c.args in c.tangent_exists.result ≡ case_exists s.self.ends s.case
tested c =
    let s = c.args in
    c.tangent_exists.ensures ∙ ap (λ (k : Circles). tangent_exists s.case s.self.ends.radius k.v) c.circles-circles.ensures.0

-- the case exists
there : (i : Else-not-tangent_exists) → let s = i.args in case_exists s.self.ends s.case ≡ true
there i = sym (tested i.before) ∙ i.if-not-tangent_exists.false

-- it does not
pub returns-then-not-tangent_exists : goal.returns-then-not-tangent_exists
returns-then-not-tangent_exists c f e =
    let s = c.args in
    measures-absent f s.best e (case_path s.self.ends s.case) (case-absent s.self.ends s.case (sym (tested c.before) ∙ c.if-not-tangent_exists.true))

-- it is no shorter
pub returns-then-no_shorter : goal.returns-then-no_shorter
returns-then-no_shorter c f e =
    let s = c.args in
    let h = c.no_shorter.ensures c.if-no_shorter.true in
    subst (λ (g : Option Path). Measures g s.best) (sym (not-shorter s.self.ends s.case s.best c.circles-circles.result (there c.before.before) c.circles-circles.ensures.0 h.0 h.1 f e)) e

pub returns : goal.returns
unfolding path_of
returns c f e =
    let s = c.args in
    let ends = s.self.ends in
    let found = case-there ends s.case c.circles-circles.result c.straight-s.result c.straight_course-course.result (there c.before.before.before.before.before.before) c.circles-circles.ensures.0 c.straight-s.ensures.0 c.straight_course-course.ensures.0 in
    subst (λ (n : ℕ). Measures (shorter_of f (case_path ends s.case)) n) (sym c.min.ensures)
    (measures-lesser f s.best e (case_path ends s.case) (path_of ends s.case c.circles-circles.result c.straight-s.result c.straight_course-course.result) found c.case_length.result c.case_length.ensures.0 (omega (arith, c.case_length.ensures.1)))
