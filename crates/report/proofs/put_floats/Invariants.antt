-- What the loop of `put_floats` keeps. Assumes nothing.
use Rattle.std.proofs.Common.{length}
use Rattle.report.proofs.FixLaws.{Floating}
use Rattle.report.proofs.put_floats.Given as goal

abbrev pub invariant-loop-x : goal.invariant-loop-x
invariant-loop-x l = Floating l.numbers (length l.numbers) l.initial.out l.out l.x-index
