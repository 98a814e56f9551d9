-- `circles_at` gives the circles with two centres, and v between them. Assumes nothing.
use mathlib.Core.Path.{sym, subst}
use Rattle.course.specs.Vectors.{Near}
use Rattle.plane.proofs.LevelLaws.{minus-near}
use Rattle.dubins.proofs.circles_at.Goals as goal

pub returns : goal.returns
returns c =
    let e = c.vector_between-v.ensures.0 in
    (simp e, record { start = c.requires.0; end = c.requires.1; v = subst (Near 1020000) (sym e) (minus-near c.args.end c.args.start c.requires.1 c.requires.0) })
