-- `with` takes the effect of a record in, by its variants. Assumes nothing.
use Rattle.records.specs.Held.{with_effect}
use Rattle.records.proofs.HeldLaws.{same_count, same-given, point-tallied, radius-tallied, course-tallied}
use Rattle.records.proofs.Tally.with.Goals as goal

pub returns-in-Nothing-clause-tally_after : goal.returns-in-Nothing-clause-tally_after
unfolding with_effect
returns-in-Nothing-clause-tally_after c a e = rw c.in-Nothing.is e

pub returns-in-Nothing-clause-numbers_after : goal.returns-in-Nothing-clause-numbers_after
unfolding with_effect
returns-in-Nothing-clause-numbers_after c a e m = rw c.in-Nothing.is m

pub returns-in-AddPoint-clause-tally_after : goal.returns-in-AddPoint-clause-tally_after
unfolding with_effect
returns-in-AddPoint-clause-tally_after c a e = rw c.in-AddPoint.is (point-tallied a e _ c.one_more-count.ensures)

pub returns-in-AddPoint-clause-numbers_after : goal.returns-in-AddPoint-clause-numbers_after
unfolding with_effect
returns-in-AddPoint-clause-numbers_after c a e m = rw c.in-AddPoint.is (c.put_point.ensures a m (same_count a e))

pub returns-in-SetRadius-clause-tally_after : goal.returns-in-SetRadius-clause-tally_after
unfolding with_effect
returns-in-SetRadius-clause-tally_after c a e = rw c.in-SetRadius.is (radius-tallied a e)

pub returns-in-SetRadius-clause-numbers_after : goal.returns-in-SetRadius-clause-numbers_after
unfolding with_effect
returns-in-SetRadius-clause-numbers_after c a e m = rw c.in-SetRadius.is m

pub returns-in-AddCourse-clause-tally_after : goal.returns-in-AddCourse-clause-tally_after
unfolding with_effect
returns-in-AddCourse-clause-tally_after c a e = rw c.in-AddCourse.is (course-tallied a e _ c.one_more-given.ensures)

pub returns-in-AddCourse-clause-numbers_after : goal.returns-in-AddCourse-clause-numbers_after
unfolding with_effect
returns-in-AddCourse-clause-numbers_after c a e m = rw c.in-AddCourse.is (c.put_course.ensures a m (same-given a e))
