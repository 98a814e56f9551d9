-- `across` gives cross(a, b). Assumes nothing.
use Rattle.integers.proofs.BoundLaws.{overflow, carried}
use Rattle.integers.proofs.ValueLaws.{value, is}
use Rattle.course.specs.Vectors.{cross}
use Rattle.plane.proofs.LevelLaws.{cross-within}
use Rattle.plane.proofs.across.Goals as goal

pub overflow_mul-result : goal.overflow_mul-result
overflow_mul-result c = search overflow depth 20 fits 5000

pub overflow_mul-result-2 : goal.overflow_mul-result-2
overflow_mul-result-2 c = search overflow depth 20 fits 5000

pub overflow_sub-result : goal.overflow_sub-result
overflow_sub-result c = search overflow depth 20 fits 5000

pub returns : goal.returns
unfolding cross
returns c =
    carried (is (search value depth 20 fits 5000)) (cross-within c.args.a c.args.b c.requires.0 c.requires.1)
