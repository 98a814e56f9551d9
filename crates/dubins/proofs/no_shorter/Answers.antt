-- `no_shorter` says that a case is no shorter than a length only where it is none: by the least of its turns, or by its course. Assumes nothing.
use mathlib.Core.Path.{◌≡◌, sym, ap, ◌∙◌}
use Prim.Native.Nat.{ℕ, ◌+◌, ◌≤◌}
use native.Mathlib.Omega.{arith}
use borrow.Author.Tests.{leb-true}
use Rattle.dubins.specs.Cases.{straight_of, straight_course, case_length}
use Rattle.dubins.proofs.LeastLaws.{case-reaches, case-parts, course-low, outer-course}
use Rattle.dubins.proofs.no_shorter.Goals as goal

pub returns-then-length-ge-NO_LENGTH : goal.returns-then-length-ge-NO_LENGTH
returns-then-length-ge-NO_LENGTH c h = let z : ◌≡◌ {A = ℕ} 0 1 = cc in absurd (omega arith)

pub returns-then-as_long : goal.returns-then-as_long
returns-then-as_long c h =
    let a = c.args in
    let R = a.ends.radius in
    let x = straight_of a.case R a.v in
    let θ = straight_course a.case R x a.v in
    let k : a.length ≤ x + c.arc.result = leb-true _ _ (sym c.as_long.ensures ∙ c.if-as_long.true) in
    (c.if-length-ge-NO_LENGTH.false, case-reaches a.ends a.case x θ c.least_turn.result a.length (c.least_turn.ensures.0 θ (course-low a.case R x a.v)) (omega (arith, k, c.arc.ensures.0)))

pub returns-then-same_side : goal.returns-then-same_side
returns-then-same_side c h =
    let a = c.args in
    let R = a.ends.radius in
    let x = straight_of a.case R a.v in
    let θ = straight_course a.case R x a.v in
    let k : a.length ≤ x + c.case_length.result = leb-true _ _ (sym c.as_long-then-same_side.ensures ∙ h) in
    let e = c.bearing.ensures.value ∙ outer-course a.case R x a.v (sym c.same_side.ensures ∙ c.if-same_side.true) in
    (c.if-length-ge-NO_LENGTH.false, omega (arith, k, c.case_length.ensures.0 ∙ ap (case_length a.ends a.case 0) e, case-parts a.ends a.case x θ))

pub returns : goal.returns
returns c h = let z : ◌≡◌ {A = ℕ} 0 1 = cc in absurd (omega arith)
