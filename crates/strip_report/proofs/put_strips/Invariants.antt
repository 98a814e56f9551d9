-- What the loop of `put_strips` keeps. Assumes nothing.
use Rattle.strip_report.proofs.StripListingLaws.{Underway}
use Rattle.strip_report.proofs.put_strips.Given as goal

abbrev pub invariant-loop-i : goal.invariant-loop-i
invariant-loop-i l = Underway l.fn.state l.strips l.initial.out l.out l.i
