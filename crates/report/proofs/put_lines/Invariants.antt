-- What the loop of `put_lines` keeps. Assumes nothing.
use Rattle.report.proofs.ListingLaws.{Underway}
use Rattle.report.proofs.put_lines.Given as goal

abbrev pub invariant-loop-i : goal.invariant-loop-i
invariant-loop-i l = Underway l.fn.plan l.initial.out l.out l.i
