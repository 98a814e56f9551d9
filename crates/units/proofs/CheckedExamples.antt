-- The examples of a fix hold: the prover computes them. Assumes nothing.
use mathlib.Core.Path.{refl}
use lib.Ieee.{of_bits}
use Rattle.conditions.specs.Choose.{choose}
use Rattle.units.specs.Decimetres.{decimetres_of, in_limit}
use Rattle.units.specs.Position.{all_in_limit, position_of}
use Rattle.units.specs.CheckedExamples.{FixExamples}

pub fix-examples : FixExamples
unfolding of_bits choose decimetres_of in_limit all_in_limit position_of
fix-examples =
    record {
      nearest = refl;
      most = refl;
      north-beyond = refl;
      east-beyond = refl;
      down-beyond = refl;
      no_number = refl;
      infinite = refl;
    }
