-- `Sides::circles` gives the circles of a case. Assumes nothing.
use mathlib.Core.Path.{◌∙◌}
use Rattle.dubins.specs.Cases.{circles_of}
use Rattle.dubins.proofs.Sides.circles.Goals as goal

pub returns : goal.returns
unfolding circles_of
returns c =
    let from = c.centre_on-start.ensures _ _ _ c.args.self.start in
    let to = c.centre_on-end.ensures _ _ _ c.args.self.end in
    (c.circles_at.ensures.0 ∙ simp (to.0, c.ends_right.ensures, from.0, c.starts_right.ensures), c.circles_at.ensures.1)
