-- `level` gives the point in north and east. Assumes nothing.
use Rattle.integers.proofs.BoundLaws.{overflow}
use Rattle.integers.proofs.ValueLaws.{value, is}
use Rattle.course.proofs.VectorLaws.{vector, carried}
use Rattle.plane.specs.Area.{level_of}
use Rattle.plane.proofs.level.Goals as goal

pub overflow_cast-result : goal.overflow_cast-result
overflow_cast-result c = search overflow depth 20 fits 5000

pub overflow_cast-result-2 : goal.overflow_cast-result-2
overflow_cast-result-2 c = search overflow depth 20 fits 5000

pub returns : goal.returns
unfolding level_of
returns c =
    carried (vector (is (search value depth 20 fits 5000)) (is (search value depth 20 fits 5000))) (record { north = c.requires.north; east = c.requires.east })
