-- What the loop of `measure` keeps. Assumes nothing.
use Prim.Native.Nat.{◌-◌, ◌≤◌, ◌<◌}
use mathlib.Core.Path.{◌≡◌}
use lib.ListN.{length}
use Rattle.plan.specs.Lent.{lent_plan}
use Rattle.distance.specs.Pass.{AddedUp, told_from}
use Rattle.distance.proofs.measure.Given as goal

abbrev pub invariant-loop-i : goal.invariant-loop-i
invariant-loop-i l =
    let p = lent_plan l.plan in
    (AddedUp p (l.i - 1) l.carry × (l.place ≤ l.i)) × (p.head.count < length l.initial.table → l.table ≡ told_from p l.i l.initial.table)
