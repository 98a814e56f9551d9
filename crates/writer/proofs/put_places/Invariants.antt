-- What the loop of `put_places` keeps. Assumes nothing.
use Rattle.plan.specs.Lent.{lent_plan}
use Rattle.writer.proofs.PlaceLaws.{Underway}
use Rattle.writer.proofs.put_places.Given as goal

abbrev pub invariant-loop-i : goal.invariant-loop-i
invariant-loop-i l = Underway (lent_plan l.plan) l.from l.initial.file l.at l.i l.file
