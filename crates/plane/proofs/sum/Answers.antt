-- `sum` gives a + b. Assumes nothing.
use Rattle.integers.proofs.BoundLaws.{overflow}
use Rattle.integers.proofs.ValueLaws.{value, is}
use Rattle.course.proofs.VectorLaws.{vector, carried}
use Rattle.plane.specs.Level.{plus}
use Rattle.plane.proofs.LevelLaws.{plus-near}
use Rattle.plane.proofs.sum.Goals as goal

pub overflow_add-result : goal.overflow_add-result
overflow_add-result c = search overflow depth 20 fits 5000

pub overflow_add-result-2 : goal.overflow_add-result-2
overflow_add-result-2 c = search overflow depth 20 fits 5000

pub returns : goal.returns
unfolding plus
returns c =
    carried (vector (is (search value depth 20 fits 5000)) (is (search value depth 20 fits 5000))) (plus-near c.args.a c.args.b c.requires.0 c.requires.1)
