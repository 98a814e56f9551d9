-- `circle_angle` gives b of the circle law. Assumes nothing.
use mathlib.Core.Path.{ap, ◌∙◌}
use Rattle.integers.proofs.BoundLaws.{overflow, bound, bits-is-within, passed_on}
use Rattle.integers.proofs.ValueLaws.{value, uneven, is}
use Rattle.course.specs.Bearing.{signed_bearing_of}
use Rattle.course.proofs.VectorLaws.{vector}
use Rattle.heading.specs.Heading.{circle_angle}
use Rattle.heading.proofs.circle_angle.Goals as goal

pub overflow_sub-east : goal.overflow_sub-east
overflow_sub-east c = search (overflow, uneven) depth 20 fits 5000

pub overflow_mul-east : goal.overflow_mul-east
overflow_mul-east c = search (overflow, uneven) depth 20 fits 5000

pub signed_bearing-requires : goal.signed_bearing-requires
signed_bearing-requires c = record { north = search bound depth 20 fits 5000; east = bits-is-within 47 tt (search (overflow, uneven) depth 20 fits 5000) }

pub returns : goal.returns
unfolding circle_angle
returns c =
    passed_on (c.signed_bearing.ensures.value ∙ ap signed_bearing_of (vector (is (search (value, uneven) depth 20 fits 5000)) (is (search (value, uneven) depth 20 fits 5000))), c.signed_bearing.ensures.within) tt
