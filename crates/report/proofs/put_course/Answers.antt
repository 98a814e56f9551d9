-- `put_course` writes a course, or a dash. Assumes nothing.
use mathlib.Core.Logic.{⊎_elim}
use native.Mathlib.Omega.{arith}
use Rattle.text.specs.Added.{AtMost}
use Rattle.report.specs.Listing.{course_text}
use Rattle.report.proofs.put_course.Goals as goal

pub returns-in-Lines : goal.returns-in-Lines
unfolding course_text
returns-in-Lines c =
    let short : AtMost 21 c.args.out.now c.text.new.self = omega (arith, c.text.ensures.wrote.ends) in
    ⊎_elim (λ e. rw e (c.text.ensures, short)) (λ e. rw e (c.text.ensures, short)) c.in-Lines.is

pub returns-in-Dubins : goal.returns-in-Dubins
unfolding course_text
returns-in-Dubins c =
    rw c.in-Dubins.is c.count.ensures.wrote
