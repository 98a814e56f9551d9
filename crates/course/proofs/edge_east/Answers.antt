-- `edge_east` gives the east part of edge j. Assumes nothing.
use Rattle.course.specs.Bearing.{edge_east}
use Rattle.course.proofs.edge_east.Goals as goal

pub returns : goal.returns
unfolding edge_east
returns c = c.entry.ensures
