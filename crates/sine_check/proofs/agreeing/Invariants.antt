-- `agreeing` counts no more entries than it has read. Assumes nothing.
use Rattle.std.proofs.Common.{◌≤◌}
use Rattle.sine_check.proofs.agreeing.Given as goal

abbrev pub invariant-loop-k : goal.invariant-loop-k
invariant-loop-k l = l.count ≤ l.k
