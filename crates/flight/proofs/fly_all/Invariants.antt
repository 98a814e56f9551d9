-- What the loop of `fly_all` keeps. Assumes nothing.
use Rattle.flight.proofs.ListLaws.{Underway}
use Rattle.flight.proofs.fly_all.Given as goal

abbrev pub invariant-loop-i : goal.invariant-loop-i
invariant-loop-i l = Underway l.serials l.fixes l.initial.answers l.initial.commands l.initial.state l.answers l.commands l.state l.i
