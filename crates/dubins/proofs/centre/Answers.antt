-- `centre` gives the centre of the circle on either side. Assumes nothing.
use mathlib.Core.Path.{◌∙◌}
use Rattle.dubins.specs.Cases.{centre_of}
use Rattle.dubins.proofs.PathBounds.{offset_near}
use Rattle.dubins.proofs.centre.Goals as goal

pub returns : goal.returns
unfolding centre_of
returns c =
    let p = c.level-from in
    let d = c.offset-across in
    (c.sum.ensures.0 ∙ simp (p.ensures.0, d.ensures.0, c.sideways-side.ensures.0), offset_near p.result d.result c.sum.ensures.0 p.ensures.1 d.ensures.1 c.requires.1.0)
