-- `file_length` gives the length of header and records. Assumes nothing.
use native.Mathlib.Omega.{arith}
use Rattle.plan.specs.Places.{seen}
use Rattle.writer.proofs.PieceLaws.{file-length-is}
use Rattle.writer.proofs.file_length.Goals as goal

pub returns : goal.returns
returns c version ns es ds cs = omega (arith, c.area_length.ensures.0 ns es ds cs, file-length-is version (seen c.args.head ns es ds cs))
