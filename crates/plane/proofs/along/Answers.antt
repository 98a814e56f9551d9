-- `along` gives d·D(k). Assumes nothing.
use mathlib.Core.Path.{ap, ◌∙◌}
use Rattle.integers.proofs.BoundLaws.{passed_on}
use Rattle.plane.specs.Level.{dot_of}
use Rattle.plane.proofs.along.Goals as goal

pub returns : goal.returns
returns c =
    let d = c.dot.ensures in
    passed_on (d.0 ∙ ap (dot_of c.args.d) c.direction-q.ensures.0, d.1) tt
