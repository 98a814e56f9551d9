-- `put_course` stores a course in its block, unless the places are full. Assumes nothing.
use mathlib.Core.Path.{◌≡◌, sym, ◌∙◌}
use native.Mathlib.Omega.{arith}
use lib.IntN.{pos}
use mir.Syntax.{w16, w32}
use mir.Val.{Fits, to_z}
use mir.Facts.{to_z_pos}
use borrow.Author.Rules.{rules}
use Rattle.records.proofs.HeldLaws.{course-put, course-over}
use Rattle.records.proofs.put_course.Goals as goal

pub returns-then-given-lt-MOST_POINTS : goal.returns-then-given-lt-MOST_POINTS
returns-then-given-lt-MOST_POINTS c a m e =
    let n = c.args.course in
    let f : Fits w16 n = search rules in
    let z : to_z w32 n ≡ pos n = to_z_pos w32 {n = n} (omega (arith, f.fits)) in
    rw (c.put_number.ensures, z, m) (course-put a n e c.if-given-lt-MOST_POINTS.true)

pub returns-else-given-lt-MOST_POINTS : goal.returns-else-given-lt-MOST_POINTS
returns-else-given-lt-MOST_POINTS c a m e = m ∙ sym (course-over a c.args.course e c.if-given-lt-MOST_POINTS.false)
