-- `leg_between` gives the leg, within a leg's bounds. Assumes nothing.
use Rattle.integers.proofs.BoundLaws.{overflow}
use Rattle.integers.proofs.ValueLaws.{value, is}
use Rattle.plane.specs.Area.{leg_of}
use Rattle.plane.proofs.LegLaws.{leg, leg-is, leg-carried}
use Rattle.plane.proofs.leg_between.Goals as goal

pub overflow_cast-result : goal.overflow_cast-result
overflow_cast-result c = search overflow depth 20 fits 5000

pub overflow_cast-result-2 : goal.overflow_cast-result-2
overflow_cast-result-2 c = search overflow depth 20 fits 5000

pub overflow_sub-result : goal.overflow_sub-result
overflow_sub-result c = search overflow depth 20 fits 5000

pub overflow_cast-result-3 : goal.overflow_cast-result-3
overflow_cast-result-3 c = search overflow depth 20 fits 5000

pub overflow_cast-result-4 : goal.overflow_cast-result-4
overflow_cast-result-4 c = search overflow depth 20 fits 5000

pub overflow_sub-result-2 : goal.overflow_sub-result-2
overflow_sub-result-2 c = search overflow depth 20 fits 5000

pub overflow_cast-result-5 : goal.overflow_cast-result-5
overflow_cast-result-5 c = search overflow depth 20 fits 5000

pub overflow_cast-result-6 : goal.overflow_cast-result-6
overflow_cast-result-6 c = search overflow depth 20 fits 5000

pub overflow_sub-result-3 : goal.overflow_sub-result-3
overflow_sub-result-3 c = search overflow depth 20 fits 5000

pub returns : goal.returns
unfolding leg_of
returns c =
    leg-carried (leg (is (search value depth 20 fits 5000)) (is (search value depth 20 fits 5000)) (is (search value depth 20 fits 5000))) (leg-is c.args.a c.args.b c.requires.0 c.requires.1)
