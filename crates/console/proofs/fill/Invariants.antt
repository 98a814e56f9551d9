-- What the loop keeps: the bytes that are counted are in the room, and behind them it is as it was. Assumes nothing.
use Rattle.std.proofs.Common.{length, ◌-◌, ◌≡◌, ◌≤◌, drop}
use Rattle.console.proofs.fill.Given as goal

abbrev pub invariant-loop-done : goal.invariant-loop-done
invariant-loop-done g l = record { in_room : l.done ≤ length l.room; unchanged : drop l.done l.room ≡ drop l.done l.initial.room }

abbrev pub decreases-loop-done : goal.decreases-loop-done
decreases-loop-done g l = length l.initial.room - l.done
