-- `rule_broken` asks the three rules of a strip in their order. Assumes nothing.
use mathlib.Core.Path.{◌≡◌, sym, ap, ◌∙◌}
use mathlib.Core.Bool.{Bool}
use Prim.Native.Nat.{ℕ, ◌-◌}
use Rattle.course.specs.Bearing.{bearing_of}
use Rattle.refusals.specs.Sweep.{noted}
use Rattle.plan.specs.declared.Plan.{Plan}
use Rattle.plan.specs.Places.{plan_point, plan_course}
use Rattle.plan.specs.Lent.{lent_plan}
use Rattle.strips.specs.Strips.{first_place, last_place, strip_leg}
use Rattle.strips.specs.Check.{opposed_of}
use Rattle.strips.proofs.RuleLaws.{behind, course-there, number-one, number-two, number-three, number-first, number-later}
use Rattle.strips.proofs.rule_broken.Goals as goal
use Rattle.strips.proofs.rule_broken.Goals.{Else-course-bearing, else-number-ge2-via-then-number-ge2+else-not-opposed, else-number-ge2-via-else-number-ge2}

-- the strip has one course, which is the bearing of its leg
straight : (e : Else-course-bearing)
    → let p = lent_plan e.args.plan.now in
    let j = e.args.number in
    (plan_course p (first_place j) ≡ plan_course p (last_place j)) × (plan_course p (first_place j) ≡ bearing_of (strip_leg (plan_point p) j))
straight e =
    let p = lent_plan e.args.plan.now in
    let s = e.first_place-i.ensures in
    let l = course-there p e.course_at-course.ensures s in
    let a = course-there p e.course_at.ensures (behind e.requires.least s) in
    let v = e.bearing.ensures.value ∙ ap bearing_of e.leg_of-leg.ensures.0 in
    (sym l ∙ e.if-course-course_at.false ∙ a, sym l ∙ e.if-course-bearing.false ∙ v)

-- whether it and that of the strip before are opposed
compared : (p : Plan) (j : ℕ) {χ ψ : ℕ} {b : Bool} → χ ≡ plan_course p (first_place j) → ψ ≡ plan_course p (first_place (j - 1)) → b ≡ opposed_of χ ψ
    → opposed_of (plan_course p (first_place j)) (plan_course p (first_place (j - 1))) ≡ b
compared p j l k e = sym (e ∙ (λ i. opposed_of (l i) (k i)))

pub returns-then-course-course_at : goal.returns-then-course-course_at
unfolding noted
returns-then-course-course_at c =
    let p = lent_plan c.args.plan.now in
    let s = c.first_place-i.ensures in
    let l = course-there p c.course_at-course.ensures s in
    let a = course-there p c.course_at.ensures (behind c.requires.least s) in
    sym (ap noted (number-one _ _ _ (λ e. c.if-course-course_at.true (l ∙ e ∙ sym a))))

pub returns-then-course-bearing : goal.returns-then-course-bearing
unfolding noted
returns-then-course-bearing c =
    let p = lent_plan c.args.plan.now in
    let s = c.first_place-i.ensures in
    let l = course-there p c.course_at-course.ensures s in
    let a = course-there p c.course_at.ensures (behind c.requires.least s) in
    let v = c.bearing.ensures.value ∙ ap bearing_of c.leg_of-leg.ensures.0 in
    sym (ap noted (number-two _ _ _ (sym l ∙ c.if-course-course_at.false ∙ a) (λ e. c.if-course-bearing.true (l ∙ e ∙ sym v))))

pub returns-then-not-opposed : goal.returns-then-not-opposed
unfolding noted
returns-then-not-opposed c =
    let p = lent_plan c.args.plan.now in
    let k = straight (goal.at.returns-then-not-opposed c).Else-course-bearing in
    let l = course-there p c.course_at-course.ensures c.first_place-i.ensures in
    let b = course-there p c.course_at-then-number-ge2.ensures c.first_place.ensures in
    let o = compared p c.args.number l b c.opposed.ensures ∙ c.if-not-opposed.true in
    sym (ap noted (number-three _ _ _ k.0 k.1 c.if-number-ge2.true o))

pub returns : goal.returns
unfolding noted
returns c =
    let p = lent_plan c.args.plan.now in
    let k = straight (goal.at.returns c).Else-course-bearing in
    let l = course-there p c.course_at-course.ensures c.first_place-i.ensures in
    elim c.else-number-ge2.branch [
      | else-number-ge2-via-then-number-ge2+else-not-opposed w ↦ sym (ap noted (number-later _ _ _ k.0 k.1 w.if-number-ge2.true (compared p c.args.number l (course-there p w.course_at-then-number-ge2.ensures w.first_place.ensures) w.opposed.ensures ∙ w.if-not-opposed.false)))
      | else-number-ge2-via-else-number-ge2 w ↦ sym (ap noted (number-first _ _ _ k.0 k.1 w.if-number-ge2.false))
    ]
