-- `fly_blocks` ends: each block takes a byte or more. There are no more fixes than bytes, so that their count fits. Assumes nothing.
use Rattle.std.proofs.Common.{◌-◌, ◌≤◌, length}
use Rattle.examples.proofs.fly_blocks.Given as goal

abbrev pub invariant-loop-i : goal.invariant-loop-i
invariant-loop-i l = record { in_input : l.i ≤ length l.s; counted : l.fixes ≤ l.i }

abbrev pub decreases-loop-i : goal.decreases-loop-i
decreases-loop-i l = length l.s - l.i
