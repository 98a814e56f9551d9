-- `course_rule` takes a course that is in range and follows a point. Assumes nothing.
use native.Mathlib.Omega.{arith}
use Rattle.records.proofs.RuleLaws.{course-taken, course-alone, course-range}
use Rattle.records.proofs.course_rule.Goals as goal
use Rattle.records.proofs.course_rule.Goals.{else-course-lt-FULL_CIRCLE-via-then-course-lt-FULL_CIRCLE+else-before, else-course-lt-FULL_CIRCLE-via-else-course-lt-FULL_CIRCLE}

pub returns-then-before : goal.returns-then-before
returns-then-before c a e = course-taken _ a _ e _ c.u16_at-course.ensures (omega (arith, c.if-course-lt-FULL_CIRCLE.true)) c.if-before.true

pub returns : goal.returns
returns c a e =
    let read = c.u16_at-course.ensures in
    elim c.else-course-lt-FULL_CIRCLE.branch [
      | else-course-lt-FULL_CIRCLE-via-then-course-lt-FULL_CIRCLE+else-before w ↦ course-alone _ a _ e _ read (omega (arith, w.if-course-lt-FULL_CIRCLE.true)) w.if-before.false
      | else-course-lt-FULL_CIRCLE-via-else-course-lt-FULL_CIRCLE w ↦ course-range _ a _ e _ read (omega (arith, w.if-course-lt-FULL_CIRCLE.false))
    ]
