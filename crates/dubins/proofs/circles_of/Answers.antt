-- `circles_of` gives the circles of a case. Assumes nothing.
use mathlib.Core.Path.{◌∙◌}
use Rattle.dubins.specs.Cases.{circles_of}
use Rattle.dubins.proofs.circles_of.Goals as goal

pub returns : goal.returns
unfolding circles_of
returns c =
    (c.circles_at.ensures.0 ∙ simp (c.centre-end.ensures.0, c.ends_right.ensures, c.centre-start.ensures.0, c.starts_right.ensures), c.circles_at.ensures.1)
