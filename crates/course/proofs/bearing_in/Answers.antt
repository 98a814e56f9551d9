-- `bearing_in` gives the bearing of v turned by q quarters. Assumes nothing.
use mathlib.Core.Path.{sym}
use Rattle.course.proofs.BearingLaws.{bearing-turned}
use Rattle.course.proofs.bearing_in.Goals as goal

pub returns : goal.returns
returns c =
    sym (bearing-turned c.args.v.north c.args.v.east c.edges_reached.result c.args.q c.requires.1 c.edges_reached.ensures c.requires.0)
