-- The examples of both heading laws hold: the prover computes them. Assumes nothing.
use mathlib.Core.Path.{refl}
use Rattle.conditions.specs.Choose.{choose}
use Rattle.integers.specs.Root.{next_root, root_by, root_of}
use Rattle.integers.specs.Wrap.{wrap_of}
use Rattle.course.specs.Table.{series, scaled_sine, sine_of}
use Rattle.course.specs.Vectors.{cross}
use Rattle.course.specs.Direction.{quarter, turned, direction_of}
use Rattle.course.specs.Bearing.{edge_north, edge_east, reaches, climb, bearing_in, bearing_by, bearing_of, signed_course}
use Rattle.plane.specs.Level.{dot_of, square_of, vector_length}
use Rattle.heading.specs.Heading.{line_angle, line_heading, circle_angle, round_heading, circle_heading}
use Rattle.heading.specs.CheckedExamples.{LineExamples, CircleExamples}

pub line-examples : LineExamples
unfolding choose next_root root_by root_of wrap_of series scaled_sine sine_of cross quarter turned direction_of edge_north edge_east reaches climb bearing_in bearing_by bearing_of signed_course dot_of square_of vector_length line_angle line_heading
line-examples = record { right = refl; left = refl }

pub circle-examples : CircleExamples
unfolding choose next_root root_by root_of wrap_of series scaled_sine sine_of cross quarter turned direction_of edge_north edge_east reaches climb bearing_in bearing_by bearing_of signed_course dot_of square_of vector_length circle_angle round_heading circle_heading
circle-examples = record { round = refl; centre = refl; back = refl }
