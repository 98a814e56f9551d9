-- `touch` gives where the straight part touches a circle. Assumes nothing.
use mathlib.Core.Path.{◌∙◌}
use Rattle.dubins.specs.Cases.{touch_of}
use Rattle.dubins.proofs.PathBounds.{offset_near}
use Rattle.dubins.proofs.touch.Goals as goal

pub returns : goal.returns
unfolding touch_of
returns c =
    let d = c.offset-across in
    (c.sum.ensures.0 ∙ simp (d.ensures.0, c.sideways-side.ensures.0), offset_near c.args.centre d.result c.sum.ensures.0 c.requires.0 d.ensures.1 c.requires.1.0)
