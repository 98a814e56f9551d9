-- The corners that were worked out by hand are what the definitions give: the prover computes them. Assumes nothing.
use mathlib.Core.Path.{refl}
use Rattle.conditions.specs.Choose.{choose}
use Rattle.integers.specs.Round.{nearest_of}
use Rattle.integers.specs.Wrap.{wrap_of}
use Rattle.course.specs.Table.{series, scaled_sine, sine_of}
use Rattle.course.specs.Direction.{quarter, turned, direction_of}
use Rattle.course.specs.Offset.{offset_of}
use Rattle.plane.specs.Level.{plus, minus, sideways_of}
use Rattle.fillets.specs.Corners.{rounded_of, HandCorners}
use Rattle.fillets.proofs.TangentLaws.{steepest}

pub hand-corners : HandCorners
unfolding choose nearest_of wrap_of series scaled_sine sine_of quarter turned direction_of offset_of plus minus sideways_of rounded_of
hand-corners = record { steepest = steepest; corner = refl }
