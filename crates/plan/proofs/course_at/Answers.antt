-- `course_at` reads a course, which is not negative. Assumes nothing.
use Rattle.plan.specs.Places.{number_at}
use Rattle.plan.proofs.PlaceLaws.{course-casts}
use Rattle.plan.proofs.course_at.Goals as goal

pub overflow_cast-result : goal.overflow_cast-result
overflow_cast-result c = course-casts (number_at c.args.courses.now c.args.i) c.requires.course
