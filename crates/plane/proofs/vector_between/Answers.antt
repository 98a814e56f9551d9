-- `vector_between` gives b − a. Assumes nothing.
use Rattle.integers.proofs.BoundLaws.{overflow}
use Rattle.integers.proofs.ValueLaws.{value, is}
use Rattle.course.proofs.VectorLaws.{vector, carried}
use Rattle.plane.specs.Level.{minus}
use Rattle.plane.proofs.LevelLaws.{minus-near}
use Rattle.plane.proofs.vector_between.Goals as goal

pub overflow_sub-result : goal.overflow_sub-result
overflow_sub-result c = search overflow depth 20 fits 5000

pub overflow_sub-result-2 : goal.overflow_sub-result-2
overflow_sub-result-2 c = search overflow depth 20 fits 5000

pub returns : goal.returns
unfolding minus
returns c =
    carried (vector (is (search value depth 20 fits 5000)) (is (search value depth 20 fits 5000))) (minus-near c.args.b c.args.a c.requires.1 c.requires.0)
