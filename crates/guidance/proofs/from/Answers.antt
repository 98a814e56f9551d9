-- `from` gives the position less a place. Assumes nothing.
use mathlib.Core.Path.{sym, ap, ◌∙◌, subst}
use Rattle.course.specs.declared.Vector.{Vector}
use Rattle.course.specs.Vectors.{Near}
use Rattle.plane.specs.Level.{minus}
use Rattle.plane.proofs.LevelLaws.{minus-near}
use Rattle.course.proofs.VectorLaws.{carried}
use Rattle.guidance.specs.Guide.{from_of}
use Rattle.guidance.proofs.from.Goals as goal

pub returns : goal.returns
unfolding from_of
returns c =
    let l = c.level in
    let e = c.vector_between.ensures.0 ∙ ap (λ (v : Vector). minus v c.args.start) l.ensures.0 in
    carried e (subst (Near 1500000) (sym c.vector_between.ensures.0 ∙ e) (minus-near l.result c.args.start l.ensures.1 c.requires.0))
