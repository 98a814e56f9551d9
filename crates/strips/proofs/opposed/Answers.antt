-- `opposed` takes the difference of two courses, modulo a full circle. Assumes nothing.
use native.Mathlib.Omega.{arith}
use Rattle.integers.proofs.WrapLaws.{wrap-sub}
use Rattle.strips.specs.Check.{opposed_of}
use Rattle.strips.proofs.opposed.Goals as goal

pub returns : goal.returns
unfolding opposed_of
returns c = rw (wrap-sub c.args.course c.args.before (omega arith))
