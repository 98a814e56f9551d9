-- `edge_north` gives the north part of edge j. Assumes nothing.
use Rattle.course.specs.Bearing.{edge_north}
use Rattle.course.proofs.edge_north.Goals as goal

pub returns : goal.returns
unfolding edge_north
returns c = c.entry.ensures
