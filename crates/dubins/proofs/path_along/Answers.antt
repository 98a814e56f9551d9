-- `path_along` gives the path along a way, with z1 and z2. Assumes nothing.
use Rattle.dubins.specs.Ways.{path_along}
use Rattle.dubins.proofs.path_along.Goals as goal

pub returns : goal.returns
unfolding path_along
returns c =
    let w = c.requires.0 in (
      simp (c.touch-z2.ensures.0, c.ends_right.ensures, c.touch-z1.ensures.0, c.starts_right.ensures),
      record { course = w.course; length = w.length; start = w.start; end = w.end; z1 = c.touch-z1.ensures.1; z2 = c.touch-z2.ensures.1 },
    )
