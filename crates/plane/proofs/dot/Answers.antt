-- `dot` gives a·b. Assumes nothing.
use Rattle.integers.proofs.BoundLaws.{overflow, carried}
use Rattle.integers.proofs.ValueLaws.{value, is}
use Rattle.plane.specs.Level.{dot_of}
use Rattle.plane.proofs.LevelLaws.{dot-within}
use Rattle.plane.proofs.dot.Goals as goal

pub overflow_mul-result : goal.overflow_mul-result
overflow_mul-result c = search overflow depth 20 fits 5000

pub overflow_mul-result-2 : goal.overflow_mul-result-2
overflow_mul-result-2 c = search overflow depth 20 fits 5000

pub overflow_add-result : goal.overflow_add-result
overflow_add-result c = search overflow depth 20 fits 5000

pub returns : goal.returns
unfolding dot_of
returns c =
    carried (is (search value depth 20 fits 5000)) (dot-within c.args.a c.args.b c.requires.0 c.requires.1)
